use Rattle.desk_types.proofs.Common.{[], ◌∙◌, ap, by_name, by_pair, sym, tables_of}
use Rattle.state_rows.proofs.{EditLists.same-tables, RowLists.no-placements, RowLists.none-found}
use Rattle.state_rows.specs.Kept.{by_piece, by_sheet_place, has_key, row_at}
use Rattle.state_rows.proofs.set.RowSet.new.Goals as goal

pub returns : goal.returns
returns c =
    same-tables _ (tables_of []) (λ p. ap (λ ks. has_key by_name ks p) c.new.ensures) (λ p q. ap (λ ks. has_key by_pair ks (p, q)) c.new-2.ensures)
    (λ p m k. ap (λ es. row_at by_sheet_place es (p, m, k)) c.new-3.ensures.empty) (λ m. ap (λ es. row_at by_name es m) c.new-4.ensures.empty)
    (λ r. ap (λ es. row_at by_name es r) c.new-5.ensures.empty) (λ r. ap (λ es. row_at by_name es r) c.new-6.ensures)
    (λ b. ap (λ es. row_at by_name es b) c.new-7.ensures.empty) (λ n k. ap (λ es. row_at by_piece es (n, k)) c.new-8.ensures.empty ∙ sym (no-placements n k))
    (λ r. ap (λ es. row_at by_name es r) c.new-9.ensures.empty ∙ sym (none-found r))
