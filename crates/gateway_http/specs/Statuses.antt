-- The statuses of answers.
use Rattle.desk_feed.specs.declared.message.Verdict.{Verdict}
use Rattle.desk_feed.specs.declared.message.Verdict.TheVariants as verdict
use Rattle.gateway_http.specs.declared.fault.AskFault.{AskFault}
use Rattle.gateway_http.specs.declared.fault.AskFault.TheVariants as request
use Rattle.gateway_http.specs.declared.routes.Method.{Method}
use Rattle.gateway_http.specs.declared.routes.Method.TheVariants as method
use Rattle.http_stream.specs.declared.response.Allow.{Allow}
use Rattle.http_stream.specs.declared.response.Allow.TheVariants as allow
use Rattle.http_stream.specs.declared.response.Status.{Status}
use Rattle.http_stream.specs.declared.response.Status.TheVariants.{Ok, Accepted, BadRequest, NotFound, MethodNotAllowed, Conflict, UnprocessableEntity, ServiceUnavailable}

-- The status of an answer.
abbrev pub verdict_status : Verdict → Status
verdict_status verdict.Accepted = Ok
verdict_status verdict.Ignored = Accepted
verdict_status verdict.Refused = Conflict
verdict_status verdict.Unreadable = BadRequest
verdict_status verdict.Faulty = UnprocessableEntity
verdict_status verdict.Unavailable = ServiceUnavailable

abbrev pub allow_of : Method → Allow
allow_of method.Get = allow.Get
allow_of method.Post = allow.Post

-- The status for a request that can't be read.
abbrev pub request_fault_status : AskFault → Status
request_fault_status request.NoPath = NotFound
request_fault_status (request.BadMethod m) = MethodNotAllowed (allow_of m)
request_fault_status (request.BadQuery p) = BadRequest
request_fault_status request.NoMemory = ServiceUnavailable
