pub mod Status
pub mod Holding
pub mod Numbers
pub mod Worlds
pub mod Packers
pub mod Lending
