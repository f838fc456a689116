use Rattle.std.proofs.Common.{◌≡◌, ◌≤◌, ℕ, List, Option, length, ◌*◌, ◌+◌, ◌/◌, ◌%◌, ◌∙◌, ap, sym, subst, refl, arith}
use Rattle.std.specs.Option.{IfSome}
use Rattle.block_cache.specs.Cached.{IsCacheOf, block_of, range}
use Rattle.block_cache.proofs.CacheLemmas.{cached, holds_no_more, holds_one_more}
use Rattle.block_cache.proofs.RangeLemmas.{piece_of_block, piece_there}
use Rattle.block_cache.proofs.cache.BlockCache.read_piece.Goals as goal

pub returns-then-copy_held-clause-whole : goal.returns-then-copy_held-clause-whole
returns-then-copy_held-clause-whole g c = λ told.
    let reads = (g.D.Disk.state c.args.disk.now).reads in
    let of = c.if-copy_held.ensures.held refl in
    let is = subst (IsCacheOf reads) (sym c.self.view_is) (c.requires.cache told) in
    let block = is (c.args.at / 4096) of.held of.there in
    (λ yes. piece_there c.args.at (length c.copy_held.new.piece) of.held reads (omega (arith, c.requires.within, c.copy_held.auto.piece)) of.whole block.same, λ there. refl)

pub returns-then-copy_held-clause-bytes : goal.returns-then-copy_held-clause-bytes
returns-then-copy_held-clause-bytes g c = λ told yes.
    let reads = (g.D.Disk.state c.args.disk.now).reads in
    let of = c.if-copy_held.ensures.held refl in
    let is = subst (IsCacheOf reads) (sym c.self.view_is) (c.requires.cache told) in
    let block = is (c.args.at / 4096) of.held of.there in
    piece_of_block c.args.at of.held c.copy_held.new.piece reads (omega (arith, c.requires.within, c.copy_held.auto.piece)) block.same of.same

pub returns-then-copy_held-clause-cache : goal.returns-then-copy_held-clause-cache
returns-then-copy_held-clause-cache g c = λ told.
    let reads = (g.D.Disk.state c.args.disk.now).reads in
    let is = subst (IsCacheOf reads) (sym c.self.view_is) (c.requires.cache told) in
    holds_no_more reads c.self.inside.firm c.self.inside.blocks c.copy_held.new.self is c.copy_held.ensures.no_more

pub returns-in_err-block-clause-cache : goal.returns-in_err-block-clause-cache
returns-in_err-block-clause-cache g c = λ told.
    let reads = (g.D.Disk.state c.args.disk.now).reads in
    let is = subst (IsCacheOf reads) (sym c.self.view_is) (c.requires.cache told) in
    subst (λ bytes. IsCacheOf bytes (cached c.copy_held.new.self c.self.inside.firm)) (sym (c.read_block.ensures.looks.same told))
    (holds_no_more reads c.self.inside.firm c.self.inside.blocks c.copy_held.new.self is c.copy_held.ensures.no_more)

pub returns-in-Some-clause-whole : goal.returns-in-Some-clause-whole
returns-in-Some-clause-whole g c = λ told.
    let reads = (g.D.Disk.state c.args.disk.now).reads in
    let whole = subst (λ (o : Option (List ℕ)). IfSome o (λ block. length block ≡ 4096)) c.in-Some.is c.in_ok-block.ensures.whole in
    let same = subst (λ (o : Option (List ℕ)). IfSome o (λ block. block ≡ block_of (c.args.at / 4096) reads)) c.in-Some.is (c.in_ok-block.ensures.block told) in
    (λ yes. piece_there c.args.at (length c.copy_from.new.piece) c.in-Some.block reads (omega (arith, c.requires.within, c.copy_held.auto.piece, c.copy_from.auto.piece)) whole same, λ there. refl)

pub returns-in-Some-clause-bytes : goal.returns-in-Some-clause-bytes
returns-in-Some-clause-bytes g c = λ told yes.
    let reads = (g.D.Disk.state c.args.disk.now).reads in
    let same = subst (λ (o : Option (List ℕ)). IfSome o (λ block. block ≡ block_of (c.args.at / 4096) reads)) c.in-Some.is (c.in_ok-block.ensures.block told) in
    piece_of_block c.args.at c.in-Some.block c.copy_from.new.piece reads (omega (arith, c.requires.within, c.copy_held.auto.piece, c.copy_from.auto.piece)) same (c.copy_from.ensures ∙ ap (range (c.args.at % 4096) (length c.copy_from.new.piece)) c.as_slice.ensures)

pub returns-in-Some-clause-cache : goal.returns-in-Some-clause-cache
returns-in-Some-clause-cache g c = λ told.
    let reads = (g.D.Disk.state c.args.disk.now).reads in
    let is = subst (IsCacheOf reads) (sym c.self.view_is) (c.requires.cache told) in
    let same = subst (λ (o : Option (List ℕ)). IfSome o (λ block. block ≡ block_of (c.args.at / 4096) reads)) c.in-Some.is (c.in_ok-block.ensures.block told) in
    let firmly = subst (λ (o : Option (List ℕ)). IfSome o (λ block. c.args.at / 4096 * 4096 + 4096 ≤ c.self.inside.firm)) c.in-Some.is c.in_ok-block.ensures.firmly in
    let used = holds_no_more reads c.self.inside.firm c.self.inside.blocks c.copy_held.new.self is c.copy_held.ensures.no_more in
    subst (λ bytes. IsCacheOf bytes (cached c.keep.new.self c.self.inside.firm)) (sym (c.read_block.ensures.looks.same told))
    (holds_one_more reads c.self.inside.firm (c.args.at / 4096) c.in-Some.block c.copy_held.new.self c.keep.new.self used c.keep.ensures.no_more firmly same)

pub returns-clause-cache : goal.returns-clause-cache
returns-clause-cache g c = λ told.
    let reads = (g.D.Disk.state c.args.disk.now).reads in
    let is = subst (IsCacheOf reads) (sym c.self.view_is) (c.requires.cache told) in
    subst (λ bytes. IsCacheOf bytes (cached c.copy_held.new.self c.self.inside.firm))
    (sym (c.read_whole.ensures.looks.same (c.read_block.ensures.looks.tells told) ∙ c.read_block.ensures.looks.same told))
    (holds_no_more reads c.self.inside.firm c.self.inside.blocks c.copy_held.new.self is c.copy_held.ensures.no_more)
