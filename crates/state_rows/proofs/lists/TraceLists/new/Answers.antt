use Rattle.desk_types.proofs.Common.{[], ◌∙◌, ◌≡◌, All-same, ap, arith, by_name, is_at, IsMinute, length}
use Rattle.desk_types.proofs.Common.{lookup, map, None, refl, suc, takes_of, unwrap_or, zero, ℕ}
use Rattle.state_rows.specs.Lists.{HasPieces, key_of, keys_of_installs, minute_in}
use Rattle.state_rows.proofs.lists.TraceLists.new.Goals as goal

none-in : (n : ℕ) → minute_in [] n ≡ None
none-in zero = refl
none-in (suc n) = refl

pub returns : goal.returns
unfolding takes_of
returns c = record {
  listed = record {
    lots = λ lot. ap (λ entries. map key_of (unwrap_or (lookup (is_at (by_name lot)) entries) [])) c.new.ensures.empty;
    boards = λ board. ap (λ entries. keys_of_installs (unwrap_or (lookup (is_at (by_name board)) entries) [])) c.new-2.ensures.empty;
    installs = λ board. All-same HasPieces _ [] (ap (λ entries. unwrap_or (lookup (is_at (by_name board)) entries) []) c.new-2.ensures.empty) (λ k d low. absurd (omega (arith, low)));
    overdue = ap (map key_of) c.new-3.ensures.items;
    minutes = λ number. ap (λ ms. minute_in ms number) c.new-4.ensures.items ∙ none-in number;
    count = ap length c.new-4.ensures.items;
    in_range = All-same IsMinute c.new-4.result.items [] c.new-4.ensures.items (λ k d low. absurd (omega (arith, low)));
  };
}
