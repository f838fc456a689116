-- Every raw part can be written as spaces and tokens.
use Rattle.std.proofs.Common.{◌≡◌, ◌≢◌, ◌<◌, ◌≤◌, ◌+◌, ◌==◌, ◌∙◌, sym, refl, ap, subst, ℕ, zero, suc, Bool, true, false, List, [], ◌∷◌, ◌++◌, length, drop, inl, inr, arith, append_assoc, append-nil, length-append}
use Rattle.std.specs.List.{position_or_len, before_first}
use Rattle.std.proofs.lemmas.Bool.{eqb-true, eqb-false}
use Rattle.std.proofs.lemmas.List.{take-append-drop}
use Rattle.memchr.specs.Find.{is_byte}
use Rattle.audit_lex.specs.Written.{HasNo, IsEmptyOrBegins}
use Rattle.audit_lex.specs.Pieces.{Piece, Space, Bare, Named, piece_text, pieces_text, IsValue, IsPiece, ArePieces}
use Rattle.audit_lex.proofs.HeaderLaws.{before_has_no, begins_from_place}

-- ---- a text up to a byte

-- the bytes before the first such byte, and what stands from there on
pub record UpTo (byte : ℕ) (text : List ℕ) : Type 0 where
  pub front : List ℕ
  pub back : List ℕ
  pub whole : text ≡ front ++ back
  pub none : HasNo byte front
  pub ends : IsEmptyOrBegins byte back

pub up_to : (byte : ℕ) (text : List ℕ) → UpTo byte text
up_to byte text = record {
  front = before_first (is_byte byte) text;
  back = drop (position_or_len (is_byte byte) text) text;
  whole = sym (take-append-drop (position_or_len (is_byte byte) text) text);
  none = before_has_no byte text;
  ends = begins_from_place byte text;
}

none_in_front : (byte : ℕ) (front back : List ℕ) → HasNo byte (front ++ back) → HasNo byte front
none_in_front byte [] back none = tt
none_in_front byte (b ∷ front) back none = (none.0, none_in_front byte front back none.1)

-- ---- a value

-- a text as a value and what stands behind it
pub record ValueWritten (tail : List ℕ) : Type 0 where
  pub value : List ℕ
  pub rest : List ℕ
  pub whole : tail ≡ value ++ rest
  pub is : IsValue value rest
  pub ends : IsEmptyOrBegins 32 rest

quoted_value : (tail : List ℕ) → ValueWritten (34 ∷ tail)
quoted_value tail =
    let inner = up_to 34 tail in
    elim inner.ends [
      | inl unclosed ↦ record {
        value = 34 ∷ inner.front;
        rest = [];
        whole = ap (λ t. 34 ∷ t) (inner.whole ∙ ap (λ back. inner.front ++ back) unclosed);
        is = inr (inr (record { inner = inner.front; whole = refl; none = inner.none; last = refl }));
        ends = inl refl;
      }
      | inr closed ↦
          let more = up_to 32 closed.0 in
          record {
            value = 34 ∷ (inner.front ++ 34 ∷ more.front);
            rest = more.back;
            whole = ap (λ t. 34 ∷ t) (inner.whole ∙ ap (λ back. inner.front ++ back) (closed.1 ∙ ap (λ t. 34 ∷ t) more.whole) ∙ sym (append_assoc inner.front (34 ∷ more.front) more.back));
            is = inr (inl (record { inner = inner.front; more = more.front; whole = refl; closed = inner.none; none = more.none }));
            ends = more.ends;
          }
    ]

same_first : (front back tail : List ℕ) (b first : ℕ) (more : List ℕ) → b ∷ tail ≡ front ++ back → front ≡ first ∷ more → first ≡ b
same_first front back tail b first more whole is =
    let both : b ∷ tail ≡ first ∷ (more ++ back) = whole ∙ ap (λ f. f ++ back) is in
    sym (cc both)

plain_value : (b : ℕ) (tail : List ℕ) → b ≢ 34 → ValueWritten (b ∷ tail)
plain_value b tail isnt =
    let word = up_to 32 (b ∷ tail) in
    record {
      value = word.front;
      rest = word.back;
      whole = word.whole;
      is = inl (record { unquoted = λ first more begins quote. isnt (sym (same_first word.front word.back tail b first more word.whole begins) ∙ quote); none = word.none });
      ends = word.ends;
    }

value_by : (b : ℕ) (tail : List ℕ) (quoted : Bool) → b == 34 ≡ quoted → ValueWritten (b ∷ tail)
value_by b tail true is = subst (λ c. ValueWritten (c ∷ tail)) (sym (eqb-true b 34 is)) (quoted_value tail)
value_by b tail false is = plain_value b tail (eqb-false b 34 is)

value_written : (tail : List ℕ) → ValueWritten tail
value_written [] = record { value = []; rest = []; whole = refl; is = inl (record { unquoted = λ first more begins. cc begins; none = tt }); ends = inl refl }
value_written (b ∷ tail) = value_by b tail (b == 34) refl

-- ---- a piece

-- a text as a piece and what stands behind it
pub record PieceWritten (text : List ℕ) : Type 0 where
  pub piece : Piece
  pub rest : List ℕ
  pub whole : text ≡ piece_text piece ++ rest
  pub is : IsPiece piece rest
  pub some : 0 < length (piece_text piece)

first_some : (front back tail : List ℕ) (b : ℕ) → b ∷ tail ≡ front ++ back → b ≢ 32 → IsEmptyOrBegins 32 back → 0 < length front
first_some (first ∷ front) back tail b whole isnt ends = omega arith
first_some [] back tail b whole isnt ends =
    elim ends [
      | inl none ↦ absurd (cc (whole ∙ none))
      | inr space ↦ let same : b ∷ tail ≡ 32 ∷ space.0 = whole ∙ space.1 in absurd (isnt (cc same))
    ]

word_written : (b : ℕ) (tail : List ℕ) → b ≢ 32 → PieceWritten (b ∷ tail)
word_written b tail isnt =
    let word = up_to 32 (b ∷ tail) in
    let name = up_to 61 word.front in
    elim name.ends [
      | inl bare ↦
          let same : word.front ≡ name.front = name.whole ∙ ap (λ back. name.front ++ back) bare ∙ append-nil name.front in
          record {
            piece = Bare word.front;
            rest = word.back;
            whole = word.whole;
            is = (first_some word.front word.back tail b word.whole isnt word.ends, word.none, subst (HasNo 61) (sym same) name.none, word.ends);
            some = first_some word.front word.back tail b word.whole isnt word.ends;
          }
      | inr named ↦
          let value = value_written (named.0 ++ word.back) in
          let front : word.front ≡ name.front ++ 61 ∷ named.0 = name.whole ∙ ap (λ back. name.front ++ back) named.1 in
          record {
            piece = Named name.front value.value;
            rest = value.rest;
            whole = word.whole ∙ ap (λ f. f ++ word.back) front ∙ append_assoc name.front (61 ∷ named.0) word.back
                ∙ ap (λ t. name.front ++ 61 ∷ t) value.whole ∙ sym (append_assoc name.front (61 ∷ value.value) value.rest);
            is = (none_in_front 32 name.front (61 ∷ named.0) (subst (HasNo 32) front word.none), name.none, value.is, value.ends);
            some = simp length-append (omega arith);
          }
    ]

piece_by : (b : ℕ) (tail : List ℕ) (space : Bool) → b == 32 ≡ space → PieceWritten (b ∷ tail)
piece_by b tail true is = record { piece = Space; rest = tail; whole = ap (λ c. c ∷ tail) (eqb-true b 32 is); is = tt; some = omega arith }
piece_by b tail false is = word_written b tail (eqb-false b 32 is)

-- ---- a raw part

-- a text as pieces
pub record PiecesWritten (text : List ℕ) : Type 0 where
  pub pieces : List Piece
  pub are : ArePieces pieces
  pub whole : text ≡ pieces_text pieces

with_piece : (text : List ℕ) (first : PieceWritten text) → PiecesWritten first.rest → PiecesWritten text
with_piece text first rest = record {
  pieces = first.piece ∷ rest.pieces;
  are = (subst (IsPiece first.piece) rest.whole first.is, rest.are);
  whole = first.whole ∙ ap (λ t. piece_text first.piece ++ t) rest.whole;
}

written_within : (most : ℕ) (text : List ℕ) → length text ≤ most → PiecesWritten text
written_within most [] short = record { pieces = []; are = tt; whole = refl }
written_within zero (b ∷ tail) short = absurd (omega (arith, short))
written_within (suc most) (b ∷ tail) short =
    let first = piece_by b tail (b == 32) refl in
    let size : length (b ∷ tail) ≡ length (piece_text first.piece) + length first.rest = ap length first.whole ∙ length-append (piece_text first.piece) first.rest in
    with_piece (b ∷ tail) first (written_within most first.rest (omega (arith, size, short, first.some)))

pub pieces_written : (text : List ℕ) → PiecesWritten text
pieces_written text = written_within (length text) text (omega arith)
