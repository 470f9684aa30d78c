use Rattle.std.proofs.Common.{◌≡◌, ◌∙◌, min, arith, rules}
use Rattle.std.proofs.lemmas.Iterator.{YieldsList-from_slice}
use Rattle.std.proofs.lemmas.Iterator.Consumers.{fold_from_yields_List}
use Rattle.definition.specs.Call.{store_length}
use Rattle.checks.specs.RoomLaws.{store_fold, store_bound}
use Rattle.checks.proofs.rooms.store_length.Goals as goal

shortest : (c : goal.After-fold) → c.fold.result ≡ store_length c.args.lengths.now
shortest c =
    let ns = c.args.lengths.now in
    let folded = fold_from_yields_List _ min 16777216 _ c.fold.ensures.ran (YieldsList-from_slice ns cc) (λ a x b q k. search rules) in
    folded ∙ store_fold ns 16777216 (omega arith) ∙ omega (arith, store_bound ns)

pub overflow_cast-result : goal.overflow_cast-result
overflow_cast-result c = record { fits = omega (arith, shortest c, store_bound c.args.lengths.now) }

pub returns : goal.returns
returns c = shortest c
