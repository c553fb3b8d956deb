-- Laws of messages that are turned.
pub mod SentLaws
pub mod TurnLaws
