use Rattle.desk_types.proofs.Common.{refl}
use Rattle.desk_feed.proofs.FileFronts.{is_read}
use Rattle.desk_feed.proofs.reading.read_file.Goals as goal

pub returns : goal.returns
returns g c = is_read g.R.Read.remaining c.take.result c.args.file (g.R.Read.remaining c.args.file) _ _ c.take.ensures.limit c.take.ensures.inner refl c.new-bytes.ensures.items c.in_ok-read_to_end.ensures.bytes
