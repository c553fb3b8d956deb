-- The laws of a number in digits.
mod NumberLaws
