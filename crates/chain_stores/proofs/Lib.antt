mod AskedPieces
pub mod BegunParts
pub mod FirstMessage
pub mod NextOfFirst
