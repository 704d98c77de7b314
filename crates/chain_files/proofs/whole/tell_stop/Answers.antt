use Rattle.desk_types.proofs.Common.{◌++◌, ◌∙◌, ◌≡◌, ap, codes, inl, List, map, string_bytes, subst, ℕ}
use Rattle.chain_files.specs.Stops.{stop_line, stop_text}
use Rattle.desk_commands.specs.Told.{TellsLine}
use Rattle.chain_files.proofs.whole.tell_stop.Goals as goal

pub returns-in-Ok : goal.returns-in-Ok
returns-in-Ok g c =
    let paths = map string_bytes c.args.paths.now in
    let fault = c.args.stopped.now.fault in
    let same : c.as_str.result.now ≡ stop_line paths c.args.stopped.now.place fault =
    c.as_str.ensures.value ∙ c.in-Ok.ensures.ok ∙ ap (λ (path : List ℕ). codes "tracedesk-chain: " ++ (path ++ (codes ": " ++ stop_text fault))) c.text_at-path.ensures in
    inl (c.status_of.ensures, subst (λ (text : List ℕ). TellsLine g.E.Write.contents c.args.errors.now c.tell_line.new.errors text) same c.tell_line.ensures)
