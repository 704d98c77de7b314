pub mod SeenNames
pub mod SheetLookUps
pub mod VerifiedStarts
