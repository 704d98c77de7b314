-- The bytes of an answer.
use Rattle.std.specs.Prelude.{ℕ, Bool, true, false, not, ◌&&◌, ◌==◌, List, [], ◌++◌, length, codes, decimal, unwrap_or, if◌then◌else◌}
use Rattle.http.specs.StatusCode.{reason_phrase}
use Rattle.http_stream.specs.declared.head.LengthFault.{LengthFault}
use Rattle.http_stream.specs.declared.head.LengthFault.TheVariants as length_fault
use Rattle.http_stream.specs.declared.reply.HttpReply.{HttpReply}
use Rattle.http_stream.specs.declared.reply.HttpReply.TheVariants as reply
use Rattle.http_stream.specs.declared.response.Allow.TheVariants.{Get, Post}
use Rattle.http_stream.specs.declared.response.Body.{Body}
use Rattle.http_stream.specs.declared.response.Body.TheVariants.{Made, Fixed}
use Rattle.http_stream.specs.declared.response.MediaType.{MediaType}
use Rattle.http_stream.specs.declared.response.MediaType.TheVariants.{Json, Csv}
use Rattle.http_stream.specs.declared.response.Response.{Response}
use Rattle.http_stream.specs.declared.response.Status.{Status}
use Rattle.http_stream.specs.declared.response.Status.TheVariants as status

-- ---- content

-- The answer to a request.
pub record Told : Type 0 where
  pub status : Status
  pub kind : MediaType
  pub body : List ℕ

-- A fault by name.
abbrev pub faulty : Status → List ℕ → Told
faulty s name = record {
  status = s;
  kind = Json;
  body = codes "{\"Answer\":\"Faulty\",\"Fault\":\"" ++ name ++ codes "\"}";
}

-- Out of memory, or the storage failed.
abbrev pub unavailable : Told
unavailable = record {
  status = status.ServiceUnavailable;
  kind = Json;
  body = codes "{\"Answer\":\"Unavailable\"}";
}

-- Bytes that can't start a head.
abbrev pub told_bad_head : Told
told_bad_head = faulty status.BadRequest (codes "BadHead")

-- The head limit is reached without a whole head.
abbrev pub told_head_too_large : Told
told_head_too_large = faulty status.HeaderFieldsTooLarge (codes "HeadTooLarge")

-- A head whose body can't be read.
abbrev pub told_length : LengthFault → Told
told_length length_fault.LengthRequired = faulty status.LengthRequired (codes "LengthRequired")
told_length length_fault.BadLength = faulty status.BadRequest (codes "BadLength")
told_length length_fault.BodyTooLarge = faulty status.PayloadTooLarge (codes "BodyTooLarge")

abbrev pub body_of : Body → List ℕ
body_of (Made text) = text
body_of Fixed = unavailable.body

-- The answer in a response.
abbrev pub response_told : Response → Told
response_told response =
    record { status = response.status; kind = response.kind; body = body_of response.body }

-- The answer to a portion.
abbrev pub reply_told : HttpReply → Told
reply_told (reply.Response response) = response_told response
reply_told reply.BadHead = told_bad_head
reply_told reply.HeadTooLarge = told_head_too_large
reply_told (reply.Length fault) = told_length fault

-- ---- status

abbrev pub code_of : Status → ℕ
code_of status.Ok = 200
code_of status.Accepted = 202
code_of status.BadRequest = 400
code_of status.NotFound = 404
code_of (status.MethodNotAllowed allow) = 405
code_of status.Conflict = 409
code_of status.LengthRequired = 411
code_of status.PayloadTooLarge = 413
code_of status.UnprocessableEntity = 422
code_of status.HeaderFieldsTooLarge = 431
code_of status.ServiceUnavailable = 503

-- Whether an answer counts as refused: all except 200 and 202 do.
abbrev pub is_refused : Status → Bool
is_refused s = not (code_of s == 200) && not (code_of s == 202)

-- ---- encoding

abbrev pub line_end : List ℕ
line_end = codes "\r\n"

abbrev pub line : List ℕ → List ℕ
line bytes = bytes ++ line_end

-- The version, the status code and its phrase.
unfoldable pub status_line : Status → List ℕ
status_line s = line (codes "HTTP/1.1 " ++ decimal (code_of s) ++ codes " "
    ++ unwrap_or (reason_phrase (code_of s)) [])

unfoldable pub type_line : MediaType → List ℕ
type_line Json = line (codes "Content-Type: application/json")
type_line Csv = line (codes "Content-Type: text/csv")

unfoldable pub length_line : List ℕ → List ℕ
length_line body = line (codes "Content-Length: " ++ decimal (length body))

-- The method that the path allows, if another was used.
unfoldable pub allow_line : Status → List ℕ
allow_line (status.MethodNotAllowed Get) = line (codes "Allow: GET")
allow_line (status.MethodNotAllowed Post) = line (codes "Allow: POST")
allow_line other = []

-- The connection ends after this answer.
unfoldable pub close_line : Bool → List ℕ
close_line true = line (codes "Connection: close")
close_line false = []

-- Everything before the body.
unfoldable pub head_bytes : Bool → Told → List ℕ
head_bytes closes told = status_line told.status ++ type_line told.kind ++ length_line told.body
    ++ allow_line told.status ++ close_line closes ++ line_end

-- The answer, with its body if one is sent.
unfoldable pub answer_bytes : Bool → Bool → Told → List ℕ
answer_bytes closes has_body told = head_bytes closes told ++ (if has_body then told.body else [])
