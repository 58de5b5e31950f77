pub mod Digits
pub mod Padding
pub mod Tabs
pub mod Tables
pub mod Replacing
pub mod Arguments
pub mod Laws
pub mod HexPairs
