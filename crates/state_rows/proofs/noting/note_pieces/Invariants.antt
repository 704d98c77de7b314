use Rattle.desk_types.proofs.Common.{◌++◌, ◌+◌, ◌≡◌, drop, map, Name, same, ℕ}
use Rattle.state_rows.specs.{Lists.kept_at, Lists.key_of, Noting.keys_in}
use Rattle.state_rows.proofs.noting.note_pieces.Given as goal

abbrev pub invariant-loop-i : goal.invariant-loop-i
invariant-loop-i l = record {
  lots : (n : Name) (minute : ℕ) → map key_of (kept_at l.lots n) ++ keys_in (λ p. same p.lot n) l.fn.install.number minute (l.i + 1) (drop l.i l.fn.takes)
      ≡ map key_of (kept_at l.fn.lots n) ++ keys_in (λ p. same p.lot n) l.fn.install.number minute 1 l.fn.takes;
  overdue : (minute : ℕ) → map key_of l.overdue.items ++ keys_in (λ p. p.overdue) l.fn.install.number minute (l.i + 1) (drop l.i l.fn.takes)
      ≡ map key_of l.fn.overdue.items ++ keys_in (λ p. p.overdue) l.fn.install.number minute 1 l.fn.takes;
}
