pub mod Shapes
pub mod Keys
pub mod Selections
pub mod Texts
