use Rattle.desk_types.proofs.Common.{[], IfErr, IfOk-weaker, IfSome, inr, Option, subst, sym, ℕ}
use Rattle.line_tables.proofs.Common.{blank, HoldsAt, over_files, Trees}
use Rattle.desk_file.proofs.{FirstLists.begins_any, FirstLists.reads_none, RefusedFiles.refuses}
use Rattle.desk_file.specs.{Files.Begins, Files.HasOursFirst, Refused.RefusesRun}
use Rattle.line_schema.specs.Stands.{state_of}
use Rattle.sqlite_wal.specs.Files.{image_at}
use Rattle.desk_file.proofs.opening.open_desk.Goals as goal

pub returns-in-Some-clause-begins : goal.returns-in-Some-clause-begins
returns-in-Some-clause-begins g c =
    let greatest = c.in-Some.greatest in
    IfOk-weaker c.new_desk.result _ _ (λ store begins clean alone.
    let b = begins clean alone in
    (greatest, [], subst (λ make. Begins (image_at g.T.Start) make greatest []) (sym c.in-Some.is) b.0, b.1)) c.new_desk.ensures.begins

pub returns-in_default-clause-begins : goal.returns-in_default-clause-begins
returns-in_default-clause-begins g c =
    IfOk-weaker c.kept_desk.result _ _ (λ store begins clean alone.
    let b = begins clean alone in
    (b.0, b.1, begins_any (image_at g.T.Start) c.args.make b.0 b.1 b.2, b.3)) c.kept_desk.ensures.begins

pub returns-in-Some-clause-alone : goal.returns-in-Some-clause-alone
returns-in-Some-clause-alone g c =
    IfOk-weaker c.new_desk.result _ _ (λ store alone clean none.
    subst (λ (make : Option ℕ). IfSome make (λ greatest. (trees : Trees) → (state_of over_files store).may_leave trees → HoldsAt (blank greatest) trees)) (sym c.in-Some.is) (alone clean none)) c.new_desk.ensures.alone

pub returns-in_default-clause-alone : goal.returns-in_default-clause-alone
returns-in_default-clause-alone g c =
    IfOk-weaker c.kept_desk.result _ _ (λ store begins clean none.
    let bare : HasOursFirst (image_at g.T.Start) = λ db found. inr (none db found) in
    let b = begins clean bare in
    absurd (reads_none (image_at g.T.Start) b.0 b.1 b.2 none)) c.kept_desk.ensures.begins

pub returns-in-Some-clause-refused : goal.returns-in-Some-clause-refused
returns-in-Some-clause-refused g c = subst (λ (make : Option ℕ). IfErr c.new_desk.result (RefusesRun (image_at g.T.Start) make)) (sym c.in-Some.is) c.new_desk.ensures.refused

pub returns-in_default-clause-refused : goal.returns-in_default-clause-refused
returns-in_default-clause-refused g c = refuses (image_at g.T.Start) c.args.make c.kept_desk.result c.kept_desk.ensures.never c.kept_desk.ensures.refused
