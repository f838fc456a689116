-- Replies as JSON, and their lines.
use Rattle.std.specs.Prelude.{◌≡◌, ◌≢◌, ℕ, ◌-◌, ◌/◌, ◌%◌, List, [], ◌∷◌, ◌++◌, length, replicate, map, fold, Option, None, Some, codes, decimal, encode_utf8_all, true}
use Rattle.std.specs.List.{AllByRecursion}
use Rattle.flow_base.specs.declared.types.Bad.{Bad}
use Rattle.flow_base.specs.declared.types.EntityId.{EntityId}
use Rattle.flow_base.specs.declared.types.Flow.{Flow}
use Rattle.flow_base.specs.declared.types.How.{How}
use Rattle.flow_base.specs.declared.types.How.TheVariants as how
use Rattle.bstr.specs.Utf8.{lossy_chars}
use Rattle.serde_json.specs.Data.{Data, null, boolean, number, unsigned, string, array, object, item, no_items, Members, member, no_members, put}
use Rattle.serde_json.specs.View.{items_of}
use Rattle.serde_json.specs.Written.{compact_text}
use Rattle.report_json.specs.declared.counts.Counts.{Counts}
use Rattle.report_json.specs.declared.reply.Reply.{Reply}
use Rattle.report_json.specs.declared.reply.Reply.TheVariants as reply

-- a number of bytes, lines or the like
abbrev pub count_data : ℕ → Data
count_data count = number (unsigned count)

-- the bytes that were taken
abbrev pub take_data : ℕ → Data
take_data count = object (member (codes "take") (count_data count) no_members)

-- the events released so far
abbrev pub settle_data : ℕ → Data
settle_data count = object (member (codes "settle") (count_data count) no_members)

-- the number of an object
abbrev pub id_data : EntityId → Data
id_data id = number (unsigned id.0)

-- the numbers of objects
abbrev pub ids_data : List EntityId → Data
ids_data ids = array (items_of (map id_data ids))

-- an object and the objects that reach it
abbrev pub back_data : EntityId → List EntityId → Data
back_data of ids = object (member (codes "back") (id_data of) (member (codes "ids") (ids_data ids) no_members))

-- an object and the objects that it reaches
abbrev pub fore_data : EntityId → List EntityId → Data
fore_data of ids = object (member (codes "fore") (id_data of) (member (codes "ids") (ids_data ids) no_members))

-- an object and the sources that reach it
abbrev pub sources_data : EntityId → List EntityId → Data
sources_data of ids = object (member (codes "back") (id_data of) (member (codes "sources") (ids_data ids) no_members))

-- a number below a thousand in three digits
abbrev pub three_digits : ℕ → List ℕ
three_digits n = replicate (3 - length (decimal n)) 48 ++ decimal n

-- milliseconds as seconds, a point and three digits
abbrev pub time_text : ℕ → List ℕ
time_text ms = decimal (ms / 1000) ++ (codes "." ++ three_digits (ms % 1000))

-- the word for how a flow came about
abbrev pub how_word : How → List ℕ
how_word how.Fork = codes "fork"
how_word how.Exec = codes "exec"
how_word how.Read = codes "read"
how_word how.Write = codes "write"
how_word how.Make = codes "make"
how_word how.Alter = codes "alter"

-- a flow of a path
abbrev pub flow_data : Flow → Data
flow_data flow = object (
    member (codes "at") (string (time_text flow.at.ms)) (
    member (codes "from") (id_data flow.from) (
    member (codes "how") (string (how_word flow.how)) (
    member (codes "serial") (count_data flow.serial) (
    member (codes "to") (id_data flow.to) no_members)))))

-- a path, if there is one
abbrev pub path_data : Option (List Flow) → Data
path_data None = null
path_data (Some flows) = array (items_of (map flow_data flows))

-- two objects and a path from the first to the second
abbrev pub why_data : EntityId → EntityId → Option (List Flow) → Data
why_data from to path = object (
    member (codes "from") (id_data from) (
    member (codes "path") (path_data path) (
    member (codes "to") (id_data to) no_members)))

-- bytes as a text, with U+FFFD in place of each piece that is no UTF-8
abbrev pub text_data : List ℕ → Data
text_data bytes = string (encode_utf8_all (lossy_chars bytes))

-- a text and the objects that have it as a name
abbrev pub find_data : List ℕ → List EntityId → Data
find_data text ids = object (member (codes "find") (text_data text) (member (codes "ids") (ids_data ids) no_members))

-- an object's key and its names
abbrev pub show_data : EntityId → List ℕ → List (List ℕ) → Data
show_data id key names = object (
    member (codes "is") (text_data key) (
    member (codes "names") (array (items_of (map text_data names))) (
    member (codes "show") (id_data id) no_members)))

-- a malformed line as its number and its fault
abbrev pub bad_data : Bad → Data
bad_data bad = array (item (count_data bad.line) (item (count_data bad.fault) no_items))

-- malformed lines
abbrev pub bads_data : List Bad → Data
bads_data bads = array (items_of (map bad_data bads))

-- the fifteen counts, with keys in ascending order
abbrev pub stat_data : Counts → Data
stat_data counts = object (
    member (codes "blank") (count_data counts.blank) (
    member (codes "bytes") (count_data counts.bytes) (
    member (codes "events") (count_data counts.events) (
    member (codes "excess") (count_data counts.excess) (
    member (codes "flows") (count_data counts.flows) (
    member (codes "kept") (count_data counts.kept) (
    member (codes "known") (count_data counts.known) (
    member (codes "late") (count_data counts.late) (
    member (codes "lines") (count_data counts.lines) (
    member (codes "malformed") (count_data counts.malformed) (
    member (codes "malformed_lines") (bads_data counts.malformed_lines) (
    member (codes "other") (count_data counts.other) (
    member (codes "unmapped") (count_data counts.unmapped) (
    member (codes "used") (count_data counts.used) (
    member (codes "waiting") (count_data counts.waiting) no_members)))))))))))))))

-- the members with one more count, in the order of keys
abbrev pub with_number : Members → List ℕ × ℕ → Members
with_number members named = put named.0 (count_data named.1) members

-- the members with more counts
abbrev pub with_numbers : Members → List (List ℕ × ℕ) → Members
with_numbers members named = fold with_number members named

-- the counts that are numbers, with their keys
abbrev pub numbers_of : Counts → List (List ℕ × ℕ)
numbers_of counts =
    (codes "blank", counts.blank) ∷ (codes "bytes", counts.bytes) ∷ (codes "events", counts.events) ∷
    (codes "excess", counts.excess) ∷ (codes "flows", counts.flows) ∷ (codes "kept", counts.kept) ∷
    (codes "known", counts.known) ∷ (codes "late", counts.late) ∷ (codes "lines", counts.lines) ∷
    (codes "malformed", counts.malformed) ∷ (codes "other", counts.other) ∷
    (codes "unmapped", counts.unmapped) ∷ (codes "used", counts.used) ∷ (codes "waiting", counts.waiting) ∷ []

-- the questions have ended
abbrev pub end_data : Data
end_data = object (member (codes "end") (boolean true) no_members)

-- a refusal by its name
abbrev pub error_data : List ℕ → Data
error_data name = object (member (codes "error") (string name) no_members)

-- a reply as JSON
abbrev pub data_of : Reply → Data
data_of (reply.Take count) = take_data count
data_of (reply.Settle count) = settle_data count
data_of (reply.Back of ids) = back_data of ids
data_of (reply.Fore of ids) = fore_data of ids
data_of (reply.Sources of ids) = sources_data of ids
data_of (reply.Why from to path) = why_data from to path
data_of (reply.Find text ids) = find_data text ids
data_of (reply.Show id key names) = show_data id key names
data_of (reply.Stat counts) = stat_data counts
data_of reply.End = end_data
data_of reply.BadQuestion = error_data (codes "BadQuestion")
data_of reply.Unknown = error_data (codes "Unknown")
data_of reply.NotKept = error_data (codes "NotKept")

-- the compact text of a value, and a line feed
abbrev pub line_of : Data → List ℕ
line_of value = compact_text value ++ 10 ∷ []

-- the line of a reply
abbrev pub text_of : Reply → List ℕ
text_of said = line_of (data_of said)

-- the text's only line feed is its last byte
abbrev pub IsLine : List ℕ → Type 0
IsLine text = (front : List ℕ) × (text ≡ front ++ 10 ∷ []) × AllByRecursion (λ byte. byte ≢ 10) front
