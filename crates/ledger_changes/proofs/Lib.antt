pub mod Written
pub mod Marks
pub mod Marked
pub mod ReadBack
pub mod Saves
