use Rattle.desk_types.proofs.Common.{[], arith, basis, inl, refl, rules, subst}
use Rattle.desk_laws.proofs.Common.{Two}
use Rattle.desk_laws.proofs.JudgedLists.{consistent}
use Rattle.line_replay.{proofs.ExpectedRows.no_rows, proofs.RowsOfLists.none_yet, specs.Expected.AreKept}
use Rattle.line_tables.proofs.Ours.{blank_is}
use Rattle.state_rows.specs.Kept.{KeptRows, tables_in}
use Rattle.line_schema.proofs.store.LineStore.create_with_book.Goals as goal

pub returns-in-Ok-clause-made : goal.returns-in-Ok-clause-made
returns-in-Ok-clause-made g c = record {
  stands = record {
    stands = record {
      greatest = refl;
      bound = c.requires.most;
      count = refl;
      within = omega arith;
      judged = tt;
      consistent = consistent Two [] tt;
      working = record { stands = c.fresh-desk.ensures; listed = c.new.ensures.listed };
      mode = search rules;
      stays_open = λ clean. inl (c.in-Ok.ensures.stays_open clean).1;
      lawful = λ clean own. record { judged = tt; uids = none_yet; numbers = omega arith };
      tables = λ clean own is_open. (c.in-Ok.ensures.made clean (blank_is _ own)).desk;
    };
    book = λ clean own is_open. (c.in-Ok.ensures.made clean (blank_is _ own)).book;
  };
  loaded = refl;
  rows = subst (λ (rows : KeptRows). AreKept rows []) c.rows-empty.ensures.kept (no_rows (tables_in c.rows-empty.result.now) (c.rows-empty.ensures.same (basis Two []) c.fresh-desk.ensures));
  bare = search rules;
  stays_open = λ clean. (c.in-Ok.ensures.stays_open clean).1;
  leaves = c.make_with_book.ensures.crash;
  alone = λ clean own trees left. (c.in-Ok.ensures.alone clean trees left).holds (blank_is _ own);
}
