pub mod Script
pub mod Summary
pub mod Counting
