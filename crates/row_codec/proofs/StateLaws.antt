-- The law of a State row.
use Rattle.std.proofs.Common.{◌≡◌, ℕ, zero, suc, ◌<◌, ◌^◌, List, [], ◌∷◌, ◌++◌, length, Option, Some, None, Bool, true, false, refl, sym, ap, subst, ◌∙◌, arith}
use Rattle.std.specs.Prelude.{⊤}
use Rattle.std.proofs.lemmas.Option.{same_Some}
use Rattle.row_codec.specs.Parsing.{list_at, text}
use Rattle.row_codec.specs.Fields.{n4, n8, flag}
use Rattle.row_codec.specs.State.{counts, FitsCounts, counts_of, counts_at, IsUnset, clock, FitsClock, Seen, seen_of, seen_flag_at, released_at, tail_bytes_at, Released, released_of, clock_of, clock_at, bad, FitsBad, bad_of, bad_at, IsTail, tail, FitsTail, tail_of, lines_of, tail_at, state, FitsState, state_of, state_at, counts_in, clock_in, tail_in}
use Rattle.row_codec.proofs.ExactLaws.{IsExact, exact-both, exact-seen, exact-as}
use Rattle.row_codec.proofs.NumberLaws.{exact-byte, exact-n4, exact-n8, exact-text}
use Rattle.row_codec.proofs.FieldLaws.{exact-flag}
use Rattle.row_codec.proofs.ListLaws.{exact-list}

exact-counts : IsExact counts counts_at FitsCounts
exact-counts = exact-as counts_of (λ c. (c.taken, (c.part, (c.lines, (c.used, (c.other, (c.blank, (c.malformed, (c.excess, (c.events, (c.late, (c.unmapped, (c.flows, c.acts))))))))))))) FitsCounts
    (λ b. refl) (λ a. refl) (λ b g. (g.taken, (g.part, (g.classes.lines, (g.classes.used, (g.classes.other, (g.classes.blank, (g.classes.malformed, (g.events.excess, (g.events.events, (g.events.late, (g.events.unmapped, (g.events.flows, g.events.acts)))))))))))))
    (λ a h. record { taken = h.0; part = h.1.0; classes = record { lines = h.1.1.0; used = h.1.1.1.0; other = h.1.1.1.1.0; blank = h.1.1.1.1.1.0; malformed = h.1.1.1.1.1.1.0 }; events = record { excess = h.1.1.1.1.1.1.1.0; events = h.1.1.1.1.1.1.1.1.0; late = h.1.1.1.1.1.1.1.1.1.0; unmapped = h.1.1.1.1.1.1.1.1.1.1.0; flows = h.1.1.1.1.1.1.1.1.1.1.1.0; acts = h.1.1.1.1.1.1.1.1.1.1.1.1 } })
    (exact-both exact-n8 (exact-both exact-n8 (exact-both exact-n8 (exact-both exact-n8 (exact-both exact-n8 (exact-both exact-n8 (exact-both exact-n8 (exact-both exact-n8 (exact-both exact-n8 (exact-both exact-n8 (exact-both exact-n8 (exact-both exact-n8 (exact-n8)))))))))))))

-- ---- the clock

abbrev FitsSeen : Seen → Type 0
FitsSeen p = (p.1 < 2 ^ 64) × IsUnset p.0 p.1

seen_there : (p : Seen) → FitsSeen p → (⊤ × (p.1 < 2 ^ 64)) × (seen_of p.0 p.1 ≡ Some p)
seen_there (true, n) h = ((tt, h.0), refl)
seen_there (false, n) h = ((tt, h.0), rw h.1 refl)

seen_back : (p q : Seen) → ⊤ × (p.1 < 2 ^ 64) → seen_of p.0 p.1 ≡ Some q → (q ≡ p) × FitsSeen q
seen_back (true, n) q h e = let is : (true, n) ≡ q = same_Some (true, n) q e in (sym is, subst FitsSeen is (h.1, tt))
seen_back (false, zero) q h e = let is : (false, 0) ≡ q = same_Some (false, 0) q e in (sym is, subst FitsSeen is (h.1, refl))
seen_back (false, suc n) q h e = absurd cc

exact-seen_flag : IsExact (λ p. flag p.0 ++ n8 p.1) seen_flag_at FitsSeen
exact-seen_flag = exact-seen (λ p. seen_of p.0 p.1) (λ p. p) FitsSeen seen_there seen_back (exact-both exact-flag exact-n8)

abbrev FitsReleased : Released → Type 0
FitsReleased p = ((p.1.0 < 2 ^ 64) × (p.1.1 < 2 ^ 32)) × (IsUnset p.0 p.1.0 × IsUnset p.0 p.1.1)

released_there : (p : Released) → FitsReleased p → (⊤ × ((p.1.0 < 2 ^ 64) × (p.1.1 < 2 ^ 32))) × (released_of p.0 p.1.0 p.1.1 ≡ Some p)
released_there (true, (ms, serial)) h = ((tt, h.0), refl)
released_there (false, (ms, serial)) h = ((tt, h.0), rw (h.1.0, h.1.1) refl)

released_back : (p q : Released) → ⊤ × ((p.1.0 < 2 ^ 64) × (p.1.1 < 2 ^ 32)) → released_of p.0 p.1.0 p.1.1 ≡ Some q → (q ≡ p) × FitsReleased q
released_back (true, (ms, serial)) q h e = let is : (true, (ms, serial)) ≡ q = same_Some (true, (ms, serial)) q e in (sym is, subst FitsReleased is (h.1, (tt, tt)))
released_back (false, (zero, zero)) q h e = let is : (false, (0, 0)) ≡ q = same_Some (false, (0, 0)) q e in (sym is, subst FitsReleased is (h.1, (refl, refl)))
released_back (false, (zero, suc n)) q h e = absurd cc
released_back (false, (suc n, serial)) q h e = absurd cc

exact-released : IsExact (λ p. flag p.0 ++ (n8 p.1.0 ++ n4 p.1.1)) released_at FitsReleased
exact-released = exact-seen (λ p. released_of p.0 p.1.0 p.1.1) (λ p. p) FitsReleased released_there released_back (exact-both exact-flag (exact-both exact-n8 exact-n4))

exact-clock : IsExact clock clock_at FitsClock
exact-clock = exact-as clock_of (λ c. ((c.seen, c.greatest), ((c.released, (c.released_ms, c.released_serial)), c.effective))) FitsClock
    (λ b. refl) (λ a. refl)
    (λ b g. ((g.greatest, g.unseen), (((g.released_ms, g.released_serial), (g.unreleased_ms, g.unreleased_serial)), g.effective)))
    (λ a h. record { greatest = h.0.0; released_ms = h.1.0.0.0; released_serial = h.1.0.0.1; effective = h.1.1; unseen = h.0.1; unreleased_ms = h.1.0.1.0; unreleased_serial = h.1.0.1.1 })
    (exact-both exact-seen_flag (exact-both exact-released exact-n8))

-- ---- the tail

exact-bad : IsExact bad bad_at FitsBad
exact-bad = exact-as bad_of (λ b. (b.line, b.fault)) FitsBad (λ b. refl) (λ a. refl) (λ b g. g) (λ a h. h) (exact-both exact-n8 exact-byte)

abbrev FitsTailBytes : Bool × List ℕ → Type 0
FitsTailBytes p = (length p.1 < 2 ^ 32) × IsTail p.0 p.1

tail_there : (p : Bool × List ℕ) → FitsTailBytes p → (⊤ × (length p.1 < 2 ^ 32)) × (tail_of p.0 p.1 ≡ Some p)
tail_there (false, bytes) h = ((tt, h.0), refl)
tail_there (true, bytes) h = ((tt, h.0), rw h.1 refl)

tail_back : (p q : Bool × List ℕ) → ⊤ × (length p.1 < 2 ^ 32) → tail_of p.0 p.1 ≡ Some q → (q ≡ p) × FitsTailBytes q
tail_back (false, bytes) q h e = let is : (false, bytes) ≡ q = same_Some (false, bytes) q e in (sym is, subst FitsTailBytes is (h.1, tt))
tail_back (true, []) q h e = let is : (true, []) ≡ q = same_Some (true, []) q e in (sym is, subst FitsTailBytes is (h.1, refl))
tail_back (true, b ∷ bytes) q h e = absurd cc

exact-tail_bytes : IsExact (λ p. flag p.0 ++ text p.1) tail_bytes_at FitsTailBytes
exact-tail_bytes = exact-seen (λ p. tail_of p.0 p.1) (λ p. p) FitsTailBytes tail_there tail_back (exact-both exact-flag exact-text)

exact-tail : IsExact tail tail_at FitsTail
exact-tail = exact-as lines_of (λ t. ((t.long, t.tail), t.bad)) FitsTail
    (λ b. refl) (λ a. refl) (λ b g. ((g.tail, g.none), g.bad)) (λ a h. record { tail = h.0.0; none = h.0.1; bad = h.1 })
    (exact-both exact-tail_bytes (exact-list exact-bad))

pub exact-state : IsExact state state_at FitsState
exact-state = exact-as state_of (λ s. (counts_in s, (clock_in s, tail_in s))) FitsState
    (λ b. refl) (λ a. refl) (λ b g. (g.counts, (g.clock, g.tail))) (λ a h. record { counts = h.0; clock = h.1.0; tail = h.1.1 })
    (exact-both exact-counts (exact-both exact-clock exact-tail))
