use Rattle.std.proofs.Common.{◌≡◌, ◌∙◌, ◌++◌, ◌∷◌, [], ◌<◌, ℕ, false, suc, List, length, get_or, sym, ap, subst, arith, length-append}
use Rattle.std.proofs.Math.ListN.{set}
use Rattle.cover_core.specs.declared.Column.{Column}
use Rattle.column_pool.specs.Pools.{is_known}
use Rattle.column_pool.specs.Buckets.{bucket_of, bucket_in, last_in, IsIndexed}
use Rattle.column_pool.proofs.Chains.{indexed-push, indexed-heads, bucket_of-below}
use Rattle.column_pool.proofs.buckets.insert.Goals as goal

pub returns-clause-indexed : goal.returns-clause-indexed
returns-clause-indexed c =
    let cs = c.args.columns.now.items in
    let column = c.args.column in
    let heads = c.open_buckets.new.heads in
    let earlier = c.args.earlier.now.items in
    let b : ℕ = bucket_in column in
    let head : ℕ = get_or c.as_slice-3.result.now c.bucket-bucket.result 0 in
    let width : length heads ≡ 262144 = c.in_ok-open_buckets.ensures.width in
    let index : IsIndexed cs heads earlier =
    indexed-heads cs c.args.heads.now heads earlier c.requires.indexed (λ some. width) c.in_ok-open_buckets.ensures.same in
    let bucket_is : c.bucket-bucket.result ≡ b = c.bucket-bucket.ensures ∙ ap (bucket_of column.class) c.as_slice-2.ensures in
    let head_is : head ≡ last_in b cs = ap (λ (l : List ℕ). get_or l c.bucket-bucket.result 0) c.as_slice-3.ensures
    ∙ ap (λ k. get_or heads k 0) bucket_is ∙ index.lasts b in
    let room : length cs < 200000 =
    (let full = c.if-as_slice-ge-MOST.false in let same = ap (λ (l : List Column). length l) c.as_slice.ensures.value in omega arith) in
    let pushed : c.push_both.new.columns.items ≡ cs ++ column ∷ [] = c.in_ok-push_both.ensures.columns in
    let beside : c.push_both.new.earlier.items ≡ earlier ++ head ∷ [] = c.in_ok-push_both.ensures.earlier in
    let long : length c.as_slice-6.result.now ≡ suc (length cs) = ap (λ (l : List Column). length l) (c.as_slice-6.ensures.value ∙ pushed)
    ∙ (let more = length-append cs (column ∷ []) in omega arith) in
    let table : c.set.new.self ≡ set heads b (suc (length cs)) =
    c.set.ensures ∙ ap (λ k. set heads k (length c.as_slice-6.result.now)) bucket_is ∙ ap (λ n. set heads b n) long in
    let new_one : is_known cs column ≡ false =
    ap (λ (l : List Column). is_known l column) (sym c.as_slice-4.ensures.value) ∙ sym c.is_known.ensures ∙ c.if-is_known.false in
    let whole = indexed-push cs heads earlier column head index room width new_one (bucket_of-below column.class column.items) head_is in
    let P : List Column → Type 0 = λ l. IsIndexed l (set heads b (suc (length cs))) (earlier ++ head ∷ []) in
    let Q : List ℕ → Type 0 = λ t. IsIndexed c.push_both.new.columns.items t (earlier ++ head ∷ []) in
    let R : List ℕ → Type 0 = λ l. IsIndexed c.push_both.new.columns.items c.set.new.self l in
    subst R (sym beside) (subst Q (sym table) (subst P (sym pushed) whole))
