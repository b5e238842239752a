-- What the contracts say of refusals and of a signed word.
pub mod Contract
pub mod Word
pub mod Rooms
