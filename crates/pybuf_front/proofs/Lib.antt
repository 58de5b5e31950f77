pub mod FrontLemmas
pub mod RoomLemmas
