use Rattle.std.proofs.Common.{refl, sym, ◌∙◌}
use Rattle.std.specs.Prelude.{⊤}
use Rattle.std.specs.List.{flat_map}
use Rattle.std.proofs.lemmas.List.Elements.{recursion_from_All}
use Rattle.row_codec.specs.Payload.{header, header_at}
use Rattle.row_codec.specs.Rows.{row, Fits}
use Rattle.row_codec.proofs.ExactLaws.{apart}
use Rattle.row_codec.proofs.ManyLaws.{values_apart}
use Rattle.row_codec.proofs.PayloadLaws.{exact-header}
use Rattle.row_codec.proofs.RowLaws.{exact-row}
use Rattle.row_codec.proofs.payload.payloads_are_apart.Goals as goal

pub returns : goal.returns
returns c = λ m n rows others bytes p q.
    let one = apart header header_at (λ m. ⊤) exact-header m n (flat_map row rows) (flat_map row others) tt tt (sym p.is ∙ q.is) in
    (one.0, values_apart exact-row refl rows others (recursion_from_All Fits rows p.fit) (recursion_from_All Fits others q.fit) one.1)
