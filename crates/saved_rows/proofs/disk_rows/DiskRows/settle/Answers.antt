use Rattle.std.proofs.Common.{◌≡◌, ◌∙◌, ◌+◌, ◌*◌, ◌++◌, ◌≤◌, ℕ, List, length, length-append, map, ap, sym, subst, arith}
use Rattle.std.specs.List.{All, flat_map}
use Rattle.block_cache.specs.Cached.{Cached, IsCacheOf}
use Rattle.reach_rows.specs.declared.rows.Row.{Row}
use Rattle.row_codec.specs.declared.rows.StoreRow.TheVariants.{Extend}
use Rattle.row_codec.specs.Rows.{row as spelling}
use Rattle.saved_rows.specs.declared.remembered.Remembered.{Remembered}
use Rattle.saved_rows.specs.Joining.{Joined, mark_in, rows_now}
use Rattle.saved_rows.specs.Saved.{AreSpelledFrom, HasRows, IsSingle, Saved, as_kept}
use Rattle.saved_rows.proofs.JoinLemmas.{now_long}
use Rattle.saved_rows.proofs.SettleLemmas.{all_kept_long, extends_long, spelled_split}
use Rattle.saved_rows.proofs.disk_rows.DiskRows.settle.Goals as goal

pub put_extends-self-inside-requires-clause-rows : goal.put_extends-self-inside-requires-clause-rows
put_extends-self-inside-requires-clause-rows c = λ k d h.
    let a = c.self.inside in
    let all : length (rows_now c.args.self.now) ≡ length a.kept.rows + length a.recent.items =
    ap (λ (j : Joined). length (rows_now j)) (sym c.self.view_is) ∙ now_long (mark_in a.renewed.entries) a.kept.rows a.recent.items in
    let raised : c.raise.new.self.count ≡ a.saved.count = ap (λ (s : Saved). s.count) c.raise.ensures in
    omega (arith, c.requires.rows k d h, all, c.self.invariant.counted, raised, c.add_kept.ensures.count, c.len-count.ensures)

pub invariant_of-self : goal.invariant_of-self
invariant_of-self c =
    let a = c.self.inside in
    let R = a.kept.rows ++ a.recent.items in
    let now = c.put_extends-self-inside.result.rows in
    let raised : c.raise.new.self.count ≡ a.saved.count = ap (λ (s : Saved). s.count) c.raise.ensures in
    let remembered : c.remember-kept.result.rows ≡ R = c.remember-kept.ensures ∙ ap (λ (r : Remembered). r.rows ++ c.as_slice.result.now) c.replace.ensures.value ∙ ap (λ (xs : List Row). a.kept.rows ++ xs) c.as_slice.ensures.value in
    let long : length now ≡ length a.kept.rows + length a.recent.items =
    ap length c.put_extends-self-inside.ensures.kept ∙ extends_long c.remember-kept.result.rows c.args.extends.now ∙ ap length remembered ∙ length-append a.kept.rows a.recent.items in
    let none : length c.new.result.items ≡ 0 = ap length c.new.ensures.items in
    record {
      counted = omega (arith, long, c.put_extends-self-inside.ensures.count, c.add_kept.ensures.count, raised, c.self.invariant.counted, c.len-count.ensures);
      few = omega (arith, long, none, c.self.invariant.few);
      single = subst (All IsSingle) (sym c.new.ensures.items) (λ i d h. absurd (omega (arith, h)));
      listed = λ i h. ap (λ es. mark_in es i) c.with_hasher.ensures.empty;
    }

pub returns-clause-there : goal.returns-clause-there
returns-clause-there c = λ bytes on are.
    let a = c.self.inside in
    let kept = a.kept.rows in
    let recent = a.recent.items in
    let firm = c.args.firm in
    let place = c.args.place in
    let xs = c.args.extends.now in
    let has : HasRows bytes a.saved kept = subst (λ (j : Joined). HasRows bytes j.saved j.kept) (sym c.self.view_is) on.rows in
    let cached : IsCacheOf bytes a.saved.cache = subst (λ (j : Joined). IsCacheOf bytes j.saved.cache) (sym c.self.view_is) on.cache in
    let low : a.saved.cache.firm ≤ firm = subst (λ (j : Joined). j.saved.cache.firm ≤ firm) (sym c.self.view_is) c.requires.firm in
    let spelled = subst (λ (j : Joined). AreSpelledFrom bytes firm place (map as_kept j.recent ++ map Extend xs)) (sym c.self.view_is) are in
    let parts = spelled_split bytes firm place (map as_kept recent) (map Extend xs) spelled in
    let up : HasRows bytes c.raise.new.self kept = subst (λ (s : Saved). HasRows bytes s kept) (sym c.raise.ensures) (c.saved_rows_outlive_commits.ensures.raised bytes a.saved kept firm has low) in
    let firm_up : c.raise.new.self.cache.firm ≡ firm = ap (λ (s : Saved). s.cache.firm) c.raise.ensures in
    let all : length recent ≡ c.len-count.result = omega (arith, c.len-count.ensures) in
    let more : HasRows bytes c.add_kept.new.self (kept ++ recent) =
    c.add_kept.ensures.rows bytes kept recent up all c.self.invariant.single (subst (λ (f : ℕ). AreSpelledFrom bytes f place (map as_kept recent)) (sym firm_up) parts.0) in
    let firm_now : c.add_kept.new.self.cache.firm ≡ firm = ap (λ (k : Cached). k.firm) c.add_kept.ensures.cache ∙ firm_up in
    let remembered : c.remember-kept.result.rows ≡ kept ++ recent = c.remember-kept.ensures ∙ ap (λ (r : Remembered). r.rows ++ c.as_slice.result.now) c.replace.ensures.value ∙ ap (λ (ys : List Row). kept ++ ys) c.as_slice.ensures.value in
    let at : place + length (flat_map spelling (map as_kept recent)) ≡ place + 46 * c.len-count.result = omega (arith, all_kept_long recent, all) in
    let rest = subst (λ (n : ℕ). AreSpelledFrom bytes firm n (map Extend xs)) at parts.1 in
    record {
      cache = subst (IsCacheOf bytes) (sym (c.put_extends-self-inside.ensures.cache ∙ c.add_kept.ensures.cache ∙ ap (λ (s : Saved). s.cache) c.raise.ensures)) (c.caches_outlive_commits.ensures.raised bytes a.saved.cache firm cached low);
      rows = c.put_extends-self-inside.ensures.there bytes (subst (HasRows bytes c.add_kept.new.self) (sym remembered) more) (subst (λ (f : ℕ). AreSpelledFrom bytes f (place + 46 * c.len-count.result) (map Extend xs)) (sym firm_now) rest);
    }
