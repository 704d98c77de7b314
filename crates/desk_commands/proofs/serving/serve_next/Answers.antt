use Rattle.desk_types.proofs.Common.{inner_of, refl}
use Rattle.desk_commands.proofs.ClientsSeen.{sees_one}
use Rattle.desk_commands.proofs.serving.serve_next.Goals as goal

pub returns-clause-served : goal.returns-clause-served
returns-clause-served g c =
    let reads = g.C.Reader.Read.remaining in
    let writes = g.C.Writer.Write.contents in
    let served = c.serve-ended in
    let client = c.in-Ok in (
      record {
        sent = reads (inner_of c.new-input.result);
        unread = reads (inner_of served.new.input);
        before = writes (inner_of c.new-answers.result);
        after = writes (inner_of served.new.output);
        ended = served.result;
      },
      refl,
      sees_one g.C.Clients.Saw reads writes c.args.clients.now c.accept.new.self c.leave.new.self
          client.reader (inner_of c.new-input.result) (inner_of served.new.input) c.into_inner.result
          client.writer (inner_of c.new-answers.result) (inner_of served.new.output) c.into_inner-2.result
          c.new-input.ensures.inner c.new-answers.ensures.inner c.into_inner.ensures c.into_inner-2.ensures client.ensures.ok c.leave.ensures,
      served.ensures.answers,
    )
