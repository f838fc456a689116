-- Room that flows use up.
use Rattle.std.proofs.Common.{◌≡◌, ℕ, ◌≤◌, ◌+◌, ◌-◌, subst, arith}
use Rattle.kept_flows.specs.Taking.{HasRoomFor}

-- a flow that leaves room for one fewer leaves room for all others
pub room_left : (room after : ℕ → Type 0) → ((n : ℕ) → room (n + 1) → after n) → (n : ℕ) → HasRoomFor room (n + 1) → HasRoomFor after n
room_left room after step n r =
    let m = r.0 in
    let more : n + 1 ≤ m = r.1 in
    let e : m ≡ m - 1 + 1 = omega (arith, more) in
    (m - 1, omega (arith, more), step (m - 1) (subst room e r.2))

-- there is room for one and some more
pub some_room : (room : ℕ → Type 0) → HasRoomFor room 1 → (n : ℕ) × room (n + 1)
some_room room r =
    let m = r.0 in
    let more : 1 ≤ m = r.1 in
    let e : m ≡ m - 1 + 1 = omega (arith, more) in
    (m - 1, subst room e r.2)
