-- Digits, and how long a line is; bytes put on a page, one run behind another; the held devices, one by one; a reply in front of its
-- room; that the contracts leave no choice.
pub mod Digits
pub mod Lengths
pub mod Putting
pub mod Devices
pub mod InRoom
pub mod Only
