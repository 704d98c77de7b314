use Rattle.headline.proofs.CrashedFiles.{crashes}
use Rattle.headline.proofs.runs.let_go.Goals as goal

pub returns : goal.returns
returns g c = record {
  left = crashes g.met.F.Disk.seen_may_stay g.D.Desk.Stands c.args.desk c.into_connection-conn.result c.into_store-store.result c.close.result
      c.into_connection-conn.ensures c.schema-obeyed.ensures.live c.into_store-store.ensures.numbered c.into_store-store.ensures.sound c.into_store-store.ensures.quiet c.close.ensures;
}
