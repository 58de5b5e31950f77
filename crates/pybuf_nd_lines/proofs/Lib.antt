pub mod Given
pub mod Small
pub mod Empty
pub mod Cuts
