-- The owner of a history around a call.

-- The owner is ready again, and if its storage has not lied now, it had not before.
pub record StaysReady {S : Type 0} (Ready Trusts : S → Type 0) (old new : S) : Type 0 where
  pub ready : Ready new
  pub trusts : Trusts new → Trusts old
