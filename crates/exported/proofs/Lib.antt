-- What the contracts give.
pub mod Only
