pub mod Finding
pub mod Keeping
pub mod Fitting
pub mod Copying
pub mod Spacing
pub mod Meanings
pub mod Counts
pub mod Parted
