use Rattle.desk_types.proofs.Common.{[], ◌∙◌, ◌≡◌, codes, decimal, length, refl, take}
use Rattle.http_stream.proofs.Letters.{joined}
use Rattle.http_stream.specs.Answers.{allow_line, close_line, head_bytes, length_line, line_end, reply_told}
use Rattle.http_stream.specs.Answers.{status_line, type_line}
use Rattle.http_stream.proofs.answer.Letter.put_head.Goals as goal

pub returns-clause-bytes : goal.returns-clause-bytes
unfolding head_bytes length_line
returns-clause-bytes c =
    let told = reply_told c.args.reply.now in
    let none : take c.args.self.now.end c.args.self.now.block ≡ [] = rw c.requires.empty refl in
    let e = c.put-8.ensures.bytes in
    let e = rw (c.put-7.ensures.bytes, c.put-6.ensures.bytes, c.put-5.ensures.bytes, c.put-4.ensures.bytes, c.put-3.ensures.bytes, c.put-2.ensures.bytes, c.put.ensures.bytes, none) at e in
    let e = rw (
      c.as_bytes.ensures.value,
      c.line.ensures.line,
      c.status.ensures,
      c.as_bytes-2.ensures.value,
      c.type_line.ensures.line,
      c.kind.ensures,
      c.as_bytes-3.ensures.value,
      c.format.ensures.text,
      c.body.ensures,
      c.as_bytes-4.ensures.value,
      c.allow_line.ensures.line,
      c.status-2.ensures,
      c.as_bytes-5.ensures.value,
      c.close_line.ensures.line,
    ) at e in
    e ∙ joined (status_line told.status) (type_line told.kind) (codes "Content-Length: ") (decimal (length told.body)) line_end (allow_line told.status) (close_line c.args.closes)
