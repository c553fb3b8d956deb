-- Laws of the records that accepting gives, of putting records in order, and of the passes over them.
pub mod InsertLaws
pub mod OverlayLaws
pub mod KeptLaws
pub mod SlotLaws
pub mod ShiftLaws
pub mod PlaceLaws
pub mod SortLaws
pub mod StepLaws
pub mod LoopLaws
pub mod MessageLaws
pub mod ResultLaws
