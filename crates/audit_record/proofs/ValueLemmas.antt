-- The values in a line are those of the tokens that it is written with.
use Rattle.std.proofs.Common.{◌≡◌, ◌∙◌, ap, List, Some, ℕ, refl}
use Rattle.std.specs.Option.{option_and_then}
use Rattle.audit_lex.specs.Header.{Head, head_of}
use Rattle.audit_lex.specs.Pieces.{named_pieces}
use Rattle.audit_lex.specs.Tokens.{NameValue, tokens_of, field_of}
use Rattle.audit_lex.specs.FieldTable.{name_of}
use Rattle.audit_lex.specs.LineFields.{raw_part_of}
use Rattle.audit_lex.specs.UsedLine.{IsUsedLine}
use Rattle.audit_lex.specs.declared.fields.Kind.{Kind}
use Rattle.audit_lex.specs.declared.fields.Field.{Field}
use Rattle.audit_lex.specs.declared.header.EventKey.{EventKey}
use Rattle.audit_lex.proofs.HeaderLaws.{read_where_written}
use Rattle.audit_lex.proofs.PieceLaws.{tokens_of_pieces}
use Rattle.audit_record.specs.Records.{first_value, value_in_line}

pub tokens_are : (line : List ℕ) (key : EventKey) (k : Kind) (is : IsUsedLine line key k) → tokens_of is.head.raw ≡ named_pieces is.pieces
tokens_are line key k is = ap tokens_of is.raw ∙ tokens_of_pieces is.pieces is.are_pieces

one_value : (line : List ℕ) (head : Head) (tokens : List NameValue) → head_of line ≡ Some head → tokens_of head.raw ≡ tokens
    → (field : Field) → value_in_line line field ≡ first_value tokens field
one_value line head tokens is same field =
    let raw : raw_part_of line ≡ Some head.raw = rw is refl in
    ap (option_and_then (λ text. field_of text (name_of field))) raw ∙ ap (λ ts. first_value ts field) same

pub same_values : (line : List ℕ) (key : EventKey) (k : Kind) (is : IsUsedLine line key k) → value_in_line line ≡ first_value (named_pieces is.pieces)
same_values line key k is =
    let read = read_where_written line is.head is.headed in
    λ i field. one_value line is.head (named_pieces is.pieces) read (tokens_are line key k is) field i
