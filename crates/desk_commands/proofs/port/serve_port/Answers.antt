use Rattle.desk_types.proofs.Common.{[], ◌<◌, Appends-nil, arith, inl, inner_of, inr, refl, rules}
use Rattle.desk_commands.specs.Clients.{no_port}
use Rattle.desk_commands.proofs.port.serve_port.Goals as goal

pub returns-in-Err-clause-ends : goal.returns-in-Err-clause-ends
returns-in-Err-clause-ends g c =
    let some : 0 < c.args.connections = omega (arith, c.requires.some) in record {
      status = inr (inr (inr refl));
      served = λ _. (record { exchanges = []; stop = no_port }, (refl, (some, refl, Appends-nil (g.W.Write.contents (inner_of c.args.output.now)), refl)), c.in-Err.ensures.err, λ s stands trusts. (s, stands, refl));
      no_desk = search rules;
      untouched = search rules;
      failed = λ is. inl (refl, c.tell_line.ensures);
      well = search rules;
    }
