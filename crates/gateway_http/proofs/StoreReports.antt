-- Both lists of a store over a report.
use Rattle.desk_types.proofs.Common.{Basis, IsTrue, subst, sym}
use Rattle.line_schema.proofs.{Others.let_be_reads, Verdicts.keeps_of}
use Rattle.line_schema.specs.{Frames.LetsOthersBe, Frames.MakesDesk, Frames.ReadsStore}
use Rattle.line_schema.specs.Stands.{conn_of, has_desk, Kept, Stands, state_of}
use Rattle.line_schema.specs.{Verdict.KeepsBoth, declared.store.LineStore.LineStore}
use Rattle.sqlite_trees.specs.declared.store.Store.{Ghosts}

module _ {S D : Type 0} (g : Ghosts S) (F : D → Basis → Type 0) where
  -- A report from the tables alone.
  pub keeps_read : (old new : LineStore S D) → (L : Kept) × Stands g F old L → ReadsStore g F old new
      → KeepsBoth g F old new
  keeps_read old new was reads = keeps_of g F old new (was.0, reads.stands was.0 was.1)
      (λ L stands clean own. reads.stands L stands) reads.reads.survives
      (let_be_reads g (conn_of old) (conn_of new) reads.reads)

  pub keeps_load : (old new : LineStore S D) → MakesDesk g F old new
      → LetsOthersBe (state_of g old) (state_of g new) → KeepsBoth g F old new
  keeps_load old new load others = keeps_of g F old new load.kept load.stands load.survives others

  -- A report from the desk, which was loaded first.
  pub keeps_loaded : (old mid new : LineStore S D) → MakesDesk g F old mid
      → LetsOthersBe (state_of g old) (state_of g mid) → IsTrue (has_desk mid) → MakesDesk g F mid new
      → KeepsBoth g F old new
  keeps_loaded old mid new load others there makes =
      subst (KeepsBoth g F old) (sym (makes.at_hand there)) (keeps_load old mid load others)
