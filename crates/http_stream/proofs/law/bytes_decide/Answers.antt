use Rattle.http_stream.proofs.Unique.{ends_or_begins, one_cut, one_portion}
use Rattle.http_stream.proofs.law.bytes_decide.Goals as goal

pub returns-clause-one : goal.returns-clause-one
returns-clause-one c = one_portion

pub returns-clause-not_both : goal.returns-clause-not_both
returns-clause-not_both c = ends_or_begins

pub returns-clause-one_cut : goal.returns-clause-one_cut
returns-clause-one_cut c = one_cut
