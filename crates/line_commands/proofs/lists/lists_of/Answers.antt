use Rattle.line_commands.proofs.lists.lists_of.Goals as goal

pub returns-in-Ok-open-clause-found : goal.returns-in-Ok-open-clause-found
returns-in-Ok-open-clause-found g c =
    let (L, is, stands) = c.in-Ok.ensures.found in
    let book = c.in-Ok-open.ensures in (
      c.in-Ok.desk,
      L,
      is,
      record {
        opens = book.opened L stands;
        leaves = λ place is_open.
            let it = book.crash L stands place is_open in record { survives = it.survives; made = it.made };
      },
    )

pub returns-in-Ok-open-clause-serves : goal.returns-in-Ok-open-clause-serves
returns-in-Ok-open-clause-serves g c =
    let (L, is, stands) = c.in-Ok.ensures.found in c.in-Ok-open.ensures.serves L stands

pub returns-in-Err-open-clause-refused : goal.returns-in-Err-open-clause-refused
returns-in-Err-open-clause-refused g c =
    let (L, is, stands) = c.in-Ok.ensures.found in
    let book = c.in-Err-open.ensures in
    (c.in-Ok.desk, L, is, c.in-Err-open.desk, c.into_connection.ensures, book.fault L stands, book.refused)
