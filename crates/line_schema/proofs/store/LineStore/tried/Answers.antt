use Rattle.line_schema.proofs.store.LineStore.tried.Goals as goal

pub returns : goal.returns
returns g c = record {
  tries = record {
    stands = λ L stands clean own. (c.command.ensures.answers L stands clean own).stands;
    crash = λ L stands clean own. (c.command.ensures.answers L stands clean own).crash;
    clean = c.command.ensures.file.clean;
  };
}
