pub mod Numbers
pub mod Log
pub mod Lines
pub mod Program
pub mod Handing
pub mod Elf
