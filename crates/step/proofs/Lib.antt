pub mod Heavy
pub mod Refills
pub mod Opened
pub mod Uncarried
pub mod Tests
pub mod Finishes
pub mod Entered
pub mod Entrance
