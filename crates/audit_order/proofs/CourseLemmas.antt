-- How the ordering of a log goes on.
use Rattle.std.proofs.Common.{◌≡◌, ◌≤◌, ◌+◌, ◌-◌, ◌∙◌, inl, inr, sym, refl, ap, subst, ℕ, Bool, true, false, List, [], ◌∷◌, ◌++◌, length, Option, None, Some, option_map, map, max, nat_lt, reverse, arith, append_assoc, append-nil, length-append, if◌then◌else◌}
use Rattle.std.specs.Prelude.{option_to_list}
use Rattle.std.specs.List.{All, filter}
use Rattle.std.proofs.lemmas.Bool.Decides.{nat_tests}
use Rattle.std.specs.List.Sorted.{IsNonDecreasing}
use Rattle.std.specs.Io.KnownBytes.{Appends}
use Rattle.std.proofs.lemmas.Grind.{flat_map-append}
use Rattle.std.proofs.lemmas.List.{map-append}
use Rattle.std.proofs.lemmas.List.Elements.{All-push, All-weaker, All-nil, filter-append}
use Rattle.std.proofs.lemmas.List.Sorted.{IsNonDecreasingBy-push, IsNonDecreasingBy-short}
use Rattle.order_text.specs.Stamp.{time_of, stamp_of}
use Rattle.order_text.specs.Laws.{time_in, is_one_line, IsOneLine}
use Rattle.order_text.specs.Undo.{undone, written_after, is_rewritten, takes_rewrite}
use Rattle.order_text.specs.declared.rewrite.Rewrite.{Rewrite}
use Rattle.order_rules.specs.Rules.{AllKnown, StandsForLines, lacks_of}
use Rattle.order_rules.specs.declared.settings.Settings as of_rules
use Rattle.audit_order.specs.declared.switches.Switches.{Switches}
use Rattle.order_text.proofs.UndoLemmas.{written_undone, written_stays, written_told}
use Rattle.order_text.proofs.LineLemmas.{written_one}
use Rattle.audit_order.specs.Start.{Start}
use Rattle.audit_order.specs.Shown.{Latest, no_time, latest, rules_of, Told, untold, line_in, lines_in, seen_as, seen_in, change_by, WasLacking}
use Rattle.audit_order.specs.Lines.{text_of, times_of, IsEnd, IsPeer, AddsNoFeed, is_less, is_raised, raised_in, risen, more_if, Written, wrote, Writes, Adds, AddsPeer, MayAddPeer, IsBlank}
use Rattle.audit_order.specs.Woven.{IsWoven}
use Rattle.audit_order.specs.Course.{Course, Keeps, Gives}
use Rattle.audit_order.proofs.WovenLemmas.{woven_none, woven_given, woven_end, woven_peer}
use Rattle.audit_order.proofs.ShownLemmas.{latest_timed, later_ms, stands_more, counted_more, exact_more, greatest_more}

pub text_more : (outs : List (List ℕ)) (out : List ℕ) → text_of (outs ++ out ∷ []) ≡ text_of outs ++ (out ++ 10 ∷ [])
text_more outs out =
    flat_map-append (λ (line : List ℕ). line ++ 10 ∷ []) outs (out ∷ []) ∙ ap (λ (t : List ℕ). text_of outs ++ t) (append-nil (out ++ 10 ∷ []))

times_more : (outs : List (List ℕ)) (out : List ℕ) → times_of (outs ++ out ∷ []) ≡ times_of outs ++ option_to_list (time_in out)
times_more outs out =
    flat_map-append (λ (line : List ℕ). option_to_list (time_in line)) outs (out ∷ []) ∙ ap (λ (t : List ℕ). times_of outs ++ t) (append-nil (option_to_list (time_in out)))

-- one more time, which isn't below the greatest
record Rising (ms : ℕ) (times : List ℕ) : Type 0 where
  rises : IsNonDecreasing times
  below : All (λ time. time ≤ ms) times

rising_more : (ms : ℕ) (times : List ℕ) (time : Option ℕ) → Rising ms times → Rising (risen ms time) (times ++ option_to_list (option_map (max ms) time))
rising_more ms times None before = rw (append-nil times) before
rising_more ms times (Some time) before = record {
  rises = IsNonDecreasingBy-push (λ (t : ℕ). t) times (max ms time) before.rises
      (λ d some. omega (arith, before.below (length times - 1) d (omega (arith, some))));
  below = All-push (λ (t : ℕ). t ≤ max ms time) times (max ms time)
      (All-weaker (λ (t : ℕ). t ≤ ms) (λ (t : ℕ). t ≤ max ms time) (λ t le. omega (arith, le)) times before.below) (omega arith);
}

undone_more : (outs : List (List ℕ)) (out line : List ℕ) → undone out ≡ line → map undone (outs ++ out ∷ []) ≡ map undone outs ++ line ∷ []
undone_more outs out line is = map-append undone outs (out ∷ []) ∙ ap (λ (l : List ℕ). map undone outs ++ l ∷ []) is

-- ---- counts of raised times

-- two tests that pass together are one
both_true : (a b : Bool) → (a ≡ true → b ≡ true) → (b ≡ true → a ≡ true) → a ≡ b
both_true true b f g = sym (f refl)
both_true false true f g = g refl
both_true false false f g = refl

less_than_max : (ms : ℕ) (time : Option ℕ) → is_less time (option_map (max ms) time) ≡ is_less time (Some ms)
less_than_max ms None = refl
less_than_max ms (Some time) = both_true (nat_lt time (max ms time)) (nat_lt time ms) (λ e. grind (arith, nat_tests, e)) (λ e. grind (arith, nat_tests, e))

raised_by : (ms : ℕ) (out line : List ℕ) → undone out ≡ line → time_in out ≡ option_map (max ms) (time_in line) → is_raised out ≡ is_less (time_in line) (Some ms)
raised_by ms out line is time =
    ap (λ (t : Option ℕ). is_less t (time_in out)) (ap time_in is) ∙ ap (is_less (time_in line)) time ∙ less_than_max ms (time_in line)

-- a line as it is written is undone to the line as it was, and bears the same serial number, and its time unless that is less than
-- one written before
record IsShown (t : Latest) (line out : List ℕ) (change : Option Rewrite) : Type 0 where
  undone : undone out ≡ line
  time : time_in out ≡ option_map (max t.ms) (time_in line)
  one : IsOneLine line → IsOneLine out
  told : is_rewritten out ≡ takes_rewrite change (stamp_of line)

is_shown : (t : Latest) (line : List ℕ) (change : Option Rewrite) (lines : List (List ℕ)) → t ≡ latest lines
    → IsShown t line (written_after t.time t.ms line change) change
is_shown t line change lines is =
    let timed : time_of t.time ≡ Some t.ms = subst (λ (u : Latest). time_of u.time ≡ Some u.ms) (sym is) (latest_timed lines) in
    record {
      undone = written_undone t.time t.ms line change timed;
      time = (written_stays t.time t.ms line change timed).time;
      one = written_one t.time t.ms line change timed;
      told = written_told t.time t.ms line change timed;
    }

-- what was lacking was so whatever is written after it
lacked_more : (switches : Switches) (lines : List Told) (line : Told) (peers : List (List ℕ))
    → All (WasLacking switches lines) peers → All (WasLacking switches (lines ++ line ∷ [])) peers
lacked_more switches lines line peers lacked =
    All-weaker (WasLacking switches lines) (WasLacking switches (lines ++ line ∷ []))
    (λ peer was. record {
      before = was.before;
      after = was.after ++ line ∷ [];
      is = ap (λ (l : List Told). l ++ line ∷ []) was.is ∙ append_assoc was.before (untold peer ∷ was.after) (line ∷ []);
      lacks = was.lacks;
    })
    peers lacked

-- one more of the lines that were added
untold_more : (lines : List (List ℕ)) (line : List ℕ) → map untold (lines ++ line ∷ []) ≡ map untold lines ++ untold line ∷ []
untold_more lines line = map-append untold lines (line ∷ [])

-- one more line is written with a rewrite, and is one of the ends, of the peers or of the lines that were given
puts : (old : Written) (told : Told) (change : Option Rewrite) (rules : AllKnown) (before : Start) (now : Option (List ℕ)) (given : List Told)
    (c : Course before now old given) (ends peers : List (List ℕ)) (gives : List Told) (e p : ℕ)
    → rules.settings ≡ old.rules.settings → StandsForLines rules (seen_as told ∷ seen_in (reverse c.told))
    → change ≡ change_by old.switches old.rules.settings (seen_in (reverse c.told)) told
    → IsWoven (map untold ends) (map untold peers) gives (c.told ++ told ∷ []) → All IsEnd ends → All IsPeer peers
    → All (WasLacking before.switches (c.told ++ told ∷ [])) peers → e ≡ length ends → p ≡ length peers
    → Course before now (record (wrote (record old { rules = rules }) told.line (stamp_of told.line) change) { added = e; peers = p }) gives
puts old told change rules before now given c ends peers gives e p settings stands by woven are blank lacked es ps =
    let line = told.line in
    let out = written_after old.latest.time old.latest.ms line change in
    let new = wrote (record old { rules = rules }) line (stamp_of line) change in
    let w = is_shown old.latest line change (lines_in (reverse c.told)) c.greatest in
    let ms = old.latest.ms in
    let undid : map undone (c.outs ++ out ∷ []) ≡ lines_in (c.told ++ told ∷ []) =
    undone_more c.outs out line w.undone ∙ ap (λ (l : List (List ℕ)). l ++ line ∷ []) c.are ∙ sym (map-append line_in c.told (told ∷ [])) in
    let rising = rising_more ms (times_of c.outs) (time_in line) (record { rises = c.rises; below = c.below }) in
    let times : times_of (c.outs ++ out ∷ []) ≡ times_of c.outs ++ option_to_list (option_map (max ms) (time_in line)) =
    times_more c.outs out ∙ ap (λ (t : Option ℕ). times_of c.outs ++ option_to_list t) w.time in
    let risen_to : new.latest.ms ≡ risen ms (time_in line) = later_ms old.latest (stamp_of line) in
    let there : Rising new.latest.ms (times_of (c.outs ++ out ∷ [])) = rw (times, risen_to) rising in
    record {
      outs = c.outs ++ out ∷ [];
      told = c.told ++ told ∷ [];
      added = ends;
      peers = peers;
      done = c.done;
      appends = c.appends;
      text = sym (append_assoc c.done old.pending (out ++ 10 ∷ []))
          ∙ ap (λ (t : List ℕ). t ++ (out ++ 10 ∷ [])) c.text ∙ sym (text_more c.outs out);
      are = undid;
      woven = woven;
      rises = there.rises;
      below = there.below;
      ends = are;
      blank = blank;
      lacked = lacked;
      own = All-push AddsNoFeed c.outs out c.own (λ one. w.one (ap is_one_line (sym w.undone) ∙ one));
      counts_raised = ap (more_if (is_less (time_in line) (Some ms))) c.counts_raised
          ∙ ap (λ (b : Bool). more_if b (raised_in c.outs)) (sym (raised_by ms out line w.undone w.time)) ∙ sym (counted_more is_raised c.outs out);
      counts_added = es;
      counts_peers = ps;
      counts_rewritten = ap (λ (b : Bool). more_if b old.rewritten) (sym w.told) ∙ ap (more_if (is_rewritten out)) c.counts_rewritten ∙ sym (counted_more is_rewritten c.outs out);
      switches = c.switches;
      settings = settings ∙ c.settings;
      rules = stands_more rules c.told told stands;
      greatest = greatest_more old.latest new.latest c.told told c.greatest refl;
      exact = exact_more before.switches old.switches old.rules.settings old.latest change c.outs c.told told c.exact c.switches c.settings c.greatest by;
    }

-- what is written of the rules' answer
wrote_by : (old mid : Written) (told : Told) (w : Writes old mid told) → mid ≡ wrote (record old { rules = w.mid.rules }) told.line (stamp_of told.line) w.change
wrote_by old mid told w = w.is ∙ ap (λ (m : Written). wrote m told.line (stamp_of told.line) w.change) w.asks.same

pub gives : (old new : Written) (told : Told) → Writes old new told → Gives old new told
gives old new told w before now given c =
    let back = seen_in (reverse c.told) in
    subst (λ (n : Written). Course before now n (given ++ told ∷ [])) (sym (wrote_by old new told w))
    (puts old told w.change w.mid.rules before now given c c.added c.peers (given ++ told ∷ []) old.added old.peers
    w.asks.settings (w.asks.stands back c.rules) (w.asks.by back c.rules)
    (woven_given (map untold c.added) (map untold c.peers) given c.told told c.woven) c.ends c.blank
    (lacked_more before.switches c.told told c.peers c.lacked) c.counts_added c.counts_peers)

-- one more of those that were counted
one_longer : (n : ℕ) (lines : List (List ℕ)) (line : List ℕ) → n ≡ length lines → n + 1 ≡ length (lines ++ line ∷ [])
one_longer n lines line is = ap (λ (k : ℕ). k + 1) is ∙ sym (length-append lines (line ∷ []))

pub keeps_end : (old new : Written) (line : List ℕ) → Adds old new line → IsEnd line → Keeps old new
keeps_end old new line a is before now given c =
    let w = a.writes in
    let told = untold line in
    let back = seen_in (reverse c.told) in
    let same : new ≡ record (wrote (record old { rules = w.mid.rules }) line (stamp_of line) w.change) { added = old.added + 1 } =
    a.is ∙ ap (λ (m : Written). record m { added = m.added + 1 }) (wrote_by old a.mid told w) in
    subst (λ (n : Written). Course before now n given) (sym same)
    (puts old told w.change w.mid.rules before now given c (c.added ++ line ∷ []) c.peers given (old.added + 1) old.peers
    w.asks.settings (w.asks.stands back c.rules) (w.asks.by back c.rules)
    (subst (λ (l : List Told). IsWoven l (map untold c.peers) given (c.told ++ told ∷ [])) (sym (untold_more c.added line))
    (woven_end (map untold c.added) (map untold c.peers) given c.told told c.woven))
    (All-push IsEnd c.added line c.ends is) c.blank
    (lacked_more before.switches c.told told c.peers c.lacked)
    (one_longer old.added c.added line c.counts_added) c.counts_peers)

adds_peer : (old new : Written) (line : List ℕ) → AddsPeer old new line → IsPeer line → Keeps old new
adds_peer old new line a is before now given c =
    let w = a.writes in
    let told = untold line in
    let back = seen_in (reverse c.told) in
    let same : new ≡ record (wrote (record old { rules = w.mid.rules }) line (stamp_of line) w.change) { peers = old.peers + 1 } =
    a.is ∙ ap (λ (m : Written). record m { peers = m.peers + 1 }) (wrote_by old a.mid told w) in
    let was : WasLacking before.switches (c.told ++ told ∷ []) line = record {
      before = c.told;
      after = [];
      is = refl;
      lacks = a.lacks back c.rules ∙ ap (λ (s : of_rules.Settings). lacks_of s back line) c.settings;
    } in
    subst (λ (n : Written). Course before now n given) (sym same)
    (puts old told w.change w.mid.rules before now given c c.added (c.peers ++ line ∷ []) given old.added (old.peers + 1)
    w.asks.settings (w.asks.stands back c.rules) (w.asks.by back c.rules)
    (subst (λ (l : List Told). IsWoven (map untold c.added) l given (c.told ++ told ∷ [])) (sym (untold_more c.peers line))
    (woven_peer (map untold c.added) (map untold c.peers) given c.told told c.woven))
    c.ends (All-push IsPeer c.peers line c.blank is)
    (All-push (WasLacking before.switches (c.told ++ told ∷ [])) c.peers line
    (lacked_more before.switches c.told told c.peers c.lacked) was)
    c.counts_added (one_longer old.peers c.peers line c.counts_peers))

pub keeps_peer : (old new : Written) (line : List ℕ) → MayAddPeer old new line → IsPeer line → Keeps old new
keeps_peer old new line (inl same) is before now given c = subst (λ (w : Written). Course before now w given) (sym same) c
keeps_peer old new line (inr a) is before now given c = adds_peer old new line a is before now given c

pub appends_both : (before now later : Option (List ℕ)) (done pending : List ℕ) → Appends before now done → Appends now later pending → Appends before later (done ++ pending)
appends_both None now later done pending first second = tt
appends_both (Some xs) None later done pending first second = absurd first
appends_both (Some xs) (Some ys) None done pending first second = absurd second
appends_both (Some xs) (Some ys) (Some zs) done pending first second = second ∙ ap (λ (t : List ℕ). t ++ pending) first ∙ append_assoc xs done pending

-- what waited to be handed on was handed on
pub flushed : (before : Start) (now later : Option (List ℕ)) (w : Written) (given : List Told) → Appends now later w.pending
    → Course before now w given → Course before later (record w { pending = [] }) given
flushed before now later w given handed c = record {
  outs = c.outs;
  told = c.told;
  added = c.added;
  peers = c.peers;
  done = c.done ++ w.pending;
  appends = appends_both before.written now later c.done w.pending c.appends handed;
  text = append-nil (c.done ++ w.pending) ∙ c.text;
  are = c.are;
  woven = c.woven;
  rises = c.rises;
  below = c.below;
  ends = c.ends;
  blank = c.blank;
  lacked = c.lacked;
  own = c.own;
  counts_raised = c.counts_raised;
  counts_added = c.counts_added;
  counts_peers = c.counts_peers;
  counts_rewritten = c.counts_rewritten;
  switches = c.switches;
  settings = c.settings;
  rules = c.rules;
  greatest = c.greatest;
  exact = c.exact;
}

pub appends_none : (before : Option (List ℕ)) → Appends before before []
appends_none None = tt
appends_none (Some xs) = sym (append-nil xs)

blank : (before : Start) (rules : AllKnown) → rules.settings ≡ rules_of before.switches → StandsForLines rules []
    → Course before before.written (record { switches = before.switches; rules = rules; pending = []; latest = no_time; raised = 0; rewritten = 0; added = 0; peers = 0 }) []
blank before rules settings stands = record {
  outs = [];
  told = [];
  added = [];
  peers = [];
  done = [];
  appends = appends_none before.written;
  text = refl;
  are = refl;
  woven = woven_none;
  rises = IsNonDecreasingBy-short (λ (t : ℕ). t) [] (omega arith);
  below = All-nil (λ (t : ℕ). t ≤ 0);
  ends = All-nil IsEnd;
  blank = All-nil IsPeer;
  lacked = All-nil (WasLacking before.switches []);
  own = All-nil AddsNoFeed;
  counts_raised = refl;
  counts_added = refl;
  counts_peers = refl;
  counts_rewritten = refl;
  switches = refl;
  settings = settings;
  rules = stands;
  greatest = refl;
  exact = refl;
}

pub starts : (before : Start) (w : Written) → IsBlank before.switches w → Course before before.written w []
starts before w b = subst (λ (v : Written). Course before before.written v []) (sym b.is) (blank before w.rules b.settings b.rules)

-- ---- lines

pub added_pieces : (node a b c d e f g h n0 n1 n2 n3 n4 n5 n6 n7 n8 : List ℕ) → n0 ≡ node → n1 ≡ n0 ++ a → n2 ≡ n1 ++ b → n3 ≡ n2 ++ c → n4 ≡ n3 ++ d
    → n5 ≡ n4 ++ e → n6 ≡ n5 ++ f → n7 ≡ n6 ++ g → n8 ≡ n7 ++ h → n8 ≡ node ++ (a ++ (b ++ (c ++ (d ++ (e ++ (f ++ (g ++ h)))))))
added_pieces node a b c d e f g h n0 n1 n2 n3 n4 n5 n6 n7 n8 e0 e1 e2 e3 e4 e5 e6 e7 e8 =
    rw (e8, e7, e6, e5, e4, e3, e2, e1, e0) (simp append_assoc refl)
