-- Sockets that are held, and their addresses.
use Rattle.std.proofs.Common.{◌≡◌, ◌==◌, ◌∙◌, sym, ap, refl, ℕ, Bool, true, false, List, ◌∷◌, length, Option, Some, None, if◌then◌else◌, arith}
use Rattle.std.proofs.lemmas.Grind.{common_steps}
use Rattle.acts.specs.declared.act.Act.{Act}
use Rattle.acts.specs.declared.act.Act.TheVariants.{Set}
use Rattle.acts.specs.declared.act.Opens.TheVariants.{Socket as ASocket}
use Rattle.acts.specs.declared.held.Held.{Held}
use Rattle.acts.specs.declared.held.Object.TheVariants.{Sock}
use Rattle.acts.specs.Holding.{holds, is_at, socket_or, socket_held, address_of}
use Rattle.flow_events.specs.Acting.{address_through, stated}

none_by : (b : Bool) (x : Option (List ℕ)) (addresses : ℕ → Option (List ℕ)) (s n : ℕ) → (s == n) ≡ b → x ≡ None → addresses n ≡ None → (if b then x else addresses s) ≡ addresses s
none_by true x addresses s n test none there = let e : s ≡ n = grind (arith, common_steps, test) in none ∙ sym there ∙ ap addresses (sym e)
none_by false x addresses s n test none there = refl

-- a socket that has no address is given none
pub unaddressed : (x : Option (List ℕ)) (addresses : ℕ → Option (List ℕ)) (s n : ℕ) → x ≡ None → addresses n ≡ None → (if s == n then x else addresses s) ≡ addresses s
unaddressed x addresses s n none there = none_by (s == n) x addresses s n refl none there

through : (addresses : ℕ → Option (List ℕ)) (socket : Option ℕ) → (elim socket [ None ↦ None | Some s ↦ addresses s ]) ≡ address_through addresses socket
through addresses None = refl
through addresses (Some s) = refl

-- the addresses after a set of a socket
pub set_addresses : (acts : List Act) (pid fd : ℕ) (address : Option (List ℕ)) (listener : Option ℕ) (cloexec : Bool) (s : ℕ) → address_of acts (length acts) ≡ None
    → address_of (Set pid fd (ASocket address listener) cloexec ∷ acts) s ≡ (if s == length acts then stated (address_of acts) (holds acts pid) address listener else address_of acts s)
set_addresses acts pid fd (Some address) listener cloexec s none = refl
set_addresses acts pid fd None None cloexec s none = sym (unaddressed None (address_of acts) s (length acts) refl none)
set_addresses acts pid fd None (Some listener) cloexec s none =
    ap (λ x. if s == length acts then x else address_of acts s) (through (address_of acts) (socket_held (holds acts pid listener)))

module _ (held : ℕ → ℕ → Option Held) (pid fd p n act : ℕ) where
  here : is_at pid fd p n ≡ true → held pid fd ≡ held p n
  here test =
      let e : pid ≡ p = grind (arith, common_steps, test) in
      let f : fd ≡ n = grind (arith, common_steps, test) in
      (λ i. held (e i) (f i))

  kept : (h : Option Held) (s : ℕ) → socket_held h ≡ Some s → socket_or act h ≡ h
  kept h s is = rw is refl

  made : (h : Option Held) → socket_held h ≡ None → socket_or act h ≡ Some (record { object = Sock act; cloexec = false })
  made h is = rw is refl

  stays_by : (b : Bool) (s : ℕ) → is_at pid fd p n ≡ b → socket_held (held pid fd) ≡ Some s → (if b then socket_or act (held p n) else held p n) ≡ held p n
  stays_by true s test is = kept (held p n) s (ap socket_held (sym (here test)) ∙ is)
  stays_by false s test is = refl

  -- a socket that is held stays
  pub socket_stays : (s : ℕ) → socket_held (held pid fd) ≡ Some s → (if is_at pid fd p n then socket_or act (held p n) else held p n) ≡ held p n
  socket_stays s is = stays_by (is_at pid fd p n) s refl is

  comes_by : (b : Bool) (number : ℕ) → is_at pid fd p n ≡ b → socket_held (held pid fd) ≡ None → number ≡ act
      → (if b then socket_or act (held p n) else held p n) ≡ (if b then Some (record { object = Sock number; cloexec = false }) else held p n)
  comes_by true number test is same = made (held p n) (ap socket_held (sym (here test)) ∙ is) ∙ ap (λ k. Some (record { object = Sock k; cloexec = false })) (sym same)
  comes_by false number test is same = refl

  -- a new socket comes where none was held
  pub socket_comes : (number : ℕ) → socket_held (held pid fd) ≡ None → number ≡ act
      → (if is_at pid fd p n then socket_or act (held p n) else held p n) ≡ (if is_at pid fd p n then Some (record { object = Sock number; cloexec = false }) else held p n)
  socket_comes number is same = comes_by (is_at pid fd p n) number refl is same
