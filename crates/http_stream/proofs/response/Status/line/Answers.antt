use Rattle.desk_types.proofs.Common.{refl}
use Rattle.http_stream.specs.Answers.{status_line}
use Rattle.std.specs.Fmt.{digits}
use Rattle.http_stream.proofs.response.Status.line.Goals as goal

pub returns-in-Ok-clause-line : goal.returns-in-Ok-clause-line
unfolding status_line digits
returns-in-Ok-clause-line c = rw c.in-Ok.is refl

pub returns-in-Accepted-clause-line : goal.returns-in-Accepted-clause-line
unfolding status_line digits
returns-in-Accepted-clause-line c = rw c.in-Accepted.is refl

pub returns-in-BadRequest-clause-line : goal.returns-in-BadRequest-clause-line
unfolding status_line digits
returns-in-BadRequest-clause-line c = rw c.in-BadRequest.is refl

pub returns-in-NotFound-clause-line : goal.returns-in-NotFound-clause-line
unfolding status_line digits
returns-in-NotFound-clause-line c = rw c.in-NotFound.is refl

pub returns-in-MethodNotAllowed-clause-line : goal.returns-in-MethodNotAllowed-clause-line
unfolding status_line digits
returns-in-MethodNotAllowed-clause-line c = rw c.in-MethodNotAllowed.is refl

pub returns-in-Conflict-clause-line : goal.returns-in-Conflict-clause-line
unfolding status_line digits
returns-in-Conflict-clause-line c = rw c.in-Conflict.is refl

pub returns-in-LengthRequired-clause-line : goal.returns-in-LengthRequired-clause-line
unfolding status_line digits
returns-in-LengthRequired-clause-line c = rw c.in-LengthRequired.is refl

pub returns-in-PayloadTooLarge-clause-line : goal.returns-in-PayloadTooLarge-clause-line
unfolding status_line digits
returns-in-PayloadTooLarge-clause-line c = rw c.in-PayloadTooLarge.is refl

pub returns-in-UnprocessableEntity-clause-line : goal.returns-in-UnprocessableEntity-clause-line
unfolding status_line digits
returns-in-UnprocessableEntity-clause-line c = rw c.in-UnprocessableEntity.is refl

pub returns-in-HeaderFieldsTooLarge-clause-line : goal.returns-in-HeaderFieldsTooLarge-clause-line
unfolding status_line digits
returns-in-HeaderFieldsTooLarge-clause-line c = rw c.in-HeaderFieldsTooLarge.is refl

pub returns-in-ServiceUnavailable-clause-line : goal.returns-in-ServiceUnavailable-clause-line
unfolding status_line digits
returns-in-ServiceUnavailable-clause-line c = rw c.in-ServiceUnavailable.is refl
