-- Plans that lie one behind the other, and what is made of them.
pub mod Runs
