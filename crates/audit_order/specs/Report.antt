-- What a run did, as a line of JSON.
use Rattle.std.specs.Prelude.{ℕ, List, ◌++◌, codes, decimal}
use Rattle.audit_order.specs.declared.counts.Counts.{Counts}

-- a number in decimal digits
abbrev pub number_text : ℕ → List ℕ
number_text n = decimal n

-- the line, with its line feed
abbrev pub report_of : Counts → List ℕ
report_of counts =
    codes "{\"added_ends\":" ++ (number_text counts.added_ends
    ++ (codes ",\"added_peers\":" ++ (number_text counts.added_peers
    ++ (codes ",\"events\":" ++ (number_text counts.events
    ++ (codes ",\"late\":" ++ (number_text counts.late
    ++ (codes ",\"rewrites\":" ++ (number_text counts.rewrites
    ++ (codes ",\"times_raised\":" ++ (number_text counts.times_raised ++ codes "}\n")))))))))))
