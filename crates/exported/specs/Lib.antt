-- What the contracts of the exported search, of the exported reader, of the exported writer and of the exported list say.
pub mod Exported
