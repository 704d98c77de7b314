-- Both lists of a file that is opened to be served, or its fault.
use Rattle.desk_types.proofs.Common.{Err, IfErr, Ok, Result}
use Rattle.line_tables.proofs.Common.{Held}
use Rattle.line_commands.specs.Serving.{ConnectsTo, HasListFault, IsRefusedIn}
use Rattle.line_commands.specs.declared.left.LineLeft.{LineLeft}
use Rattle.line_commands.specs.declared.left.LineLeft.TheVariants.{Lists, Nothing, Refused, Unread}
use Rattle.line_file.specs.declared.fault.ListFault.{ListFault}
use Rattle.line_file.specs.declared.fault.ListFault.TheVariants.{Book as AtBook, History as AtHistory}
use Rattle.sqlite_disk.specs.declared.Disk as disk
use Rattle.sqlite_store.specs.declared.store.FileStore.{FileStore}
use Rattle.sqlite_wal.specs.Recovery.{Image}

pub err-both : {A E : Type 0} (r : Result A E) (P Q R : E → Type 0) → ((e : E) → P e → Q e → R e) → IfErr r P
    → IfErr r Q → IfErr r R
err-both (Ok a) P Q R to p q = tt
err-both (Err e) P Q R to p q = to e p q

module _ {D : Type 0} {g : disk.Ghosts D} (image : Image) (conn : Held (FileStore D g))
    (connects : ConnectsTo image conn) where
  refused-in : (fault : ListFault) (left : LineLeft D g) → HasListFault conn fault left → IsRefusedIn image fault left
  refused-in (AtHistory f) (Refused last) has = (conn, connects, has)
  refused-in (AtBook f) (Refused last) has = (conn, connects, has)
  refused-in (AtHistory f) Nothing none = absurd none
  refused-in (AtBook f) Nothing none = absurd none
  refused-in (AtHistory f) (Unread files) none = absurd none
  refused-in (AtBook f) (Unread files) none = absurd none
  refused-in (AtHistory f) (Lists store) none = absurd none
  refused-in (AtBook f) (Lists store) none = absurd none

  pub refuses : {A : Type 0} (r : Result A (ListFault × LineLeft D g)) → IfErr r (λ e. HasListFault conn e.0 e.1)
      → IfErr r (λ e. IsRefusedIn image e.0 e.1)
  refuses (Ok a) has = tt
  refuses (Err e) has = refused-in e.0 e.1 has
