-- What stands in the chains of the buckets.
use Rattle.std.proofs.Common.{◌≡◌, ◌==◌, ◌||◌, ℕ, nat_eq, ◌+◌, ◌<◌, ◌≤◌, Bool, true, false, cond, zero, suc, List, [], ◌∷◌, ◌++◌, length, get_or, take, refl, sym, ap, ◌∙◌, inl, inr, arith, length-append, get_or-set_same, get_or-set_other}
use Rattle.std.proofs.Math.ListN.{set, length-set}
use Rattle.std.proofs.lemmas.Bool.{cases_eq, cases_lt}
use Rattle.std.proofs.lemmas.Bool.Decides.{nat_tests}
use Rattle.std.proofs.lemmas.List.{take_more, length-take-le}
use Rattle.std.specs.Cmp.Lexicographic.{pointwise, bytes_decides}
use Rattle.cover_core.specs.declared.Column.{Column}
use Rattle.cover_core.specs.Parts.{column_at, no_column}
use Rattle.column_pool.specs.Pools.{is_same, is_known}
use Rattle.column_pool.specs.Buckets.{bucket_of, bucket_in, last_in, IsIndexed}

pub last_in-le : (b : ℕ) (cs : List Column) → last_in b cs ≤ length cs
last_in-le b [] = omega arith
last_in-le b (c ∷ cs) =
    let rest = last_in-le b cs in
    elim (last_in b cs == 0) as (λ t. cond t (cond (bucket_in c == b) 1 0) (suc (last_in b cs)) ≤ suc (length cs)) [
      | true ↦ elim (bucket_in c == b) as (λ t. cond {A = ℕ} t 1 0 ≤ suc (length cs)) [ true ↦ omega arith | false ↦ omega arith ]
      | false ↦ omega arith
    ]

pub last_in-bucket : (b : ℕ) (cs : List Column) (k : ℕ) → last_in b cs ≡ suc k → bucket_in (column_at cs k) ≡ b
last_in-bucket b [] k e = absurd (omega arith)
last_in-bucket b (c ∷ cs) k e =
    elim (cases_eq (last_in b cs) 0) [
      | inl none ↦
          let test : (last_in b cs == 0) ≡ true = grind (arith, nat_tests) in
          let e' = rw test at e in
          elim (cases_eq (bucket_in c) b) [
            | inl same ↦
                let hit : (bucket_in c == b) ≡ true = grind (arith, nat_tests) in
                let e2 : 1 ≡ suc k = rw hit at e' in
                let first : 0 ≡ k = omega arith in
                ap (λ n. bucket_in (column_at (c ∷ cs) n)) (sym first) ∙ same
            | inr apart ↦
                let miss : (bucket_in c == b) ≡ false = grind (arith, nat_tests) in
                let e2 : 0 ≡ suc k = rw miss at e' in
                absurd (omega arith)
          ]
      | inr some ↦
          let test : (last_in b cs == 0) ≡ false = grind (arith, nat_tests) in
          let e' : suc (last_in b cs) ≡ suc k = rw test at e in
          later k (omega arith) some (λ j is. last_in-bucket b cs j is)
    ]
  where
    later : (j : ℕ) → last_in b cs ≡ j → (last_in b cs ≡ 0 → ⊥) → ((i : ℕ) → last_in b cs ≡ suc i → bucket_in (column_at cs i) ≡ b) →
        bucket_in (column_at (c ∷ cs) j) ≡ b
    later zero is some rest = absurd (some is)
    later (suc i) is some rest = rest i is

-- The same class and list lie in the same bucket. A bucket is computed from class and list alone, so a column that is the same as
-- another lies in its bucket. Nothing more is asked of the hash: how well it spreads columns decides on time, and never on what the
-- pool answers.
pub is_same-bucket : (column other : Column) → is_same column other ≡ true → bucket_in other ≡ bucket_in column
is_same-bucket column other e =
    elim (cases_eq other.class column.class) [
      | inl same ↦
          let test : (other.class == column.class) ≡ true = grind (arith, nat_tests) in
          let lists : pointwise nat_eq other.items column.items ≡ true = rw test at e in
          let items : other.items ≡ column.items = (bytes_decides other.items column.items).0 lists in
          ap (λ k. bucket_of k other.items) same ∙ ap (λ l. bucket_of column.class l) items
      | inr apart ↦
          let test : (other.class == column.class) ≡ false = grind (arith, nat_tests) in
          let no : false ≡ true = rw test at e in
          absurd (cc)
    ]

not_same : (column other : Column) → (bucket_in other ≡ bucket_in column → ⊥) → is_same column other ≡ false
not_same column other apart =
    elim (is_same column other) as (λ t. is_same column other ≡ t → t ≡ false) [
      | true ↦ λ is. absurd (apart (is_same-bucket column other is))
      | false ↦ λ is. refl
    ] refl

-- No column of the bucket stands behind its last one. A column is known exactly if it is known among the columns up to the last one
-- of its bucket: whatever stands behind that is of other buckets, and so not the same. By induction over the columns, from the
-- front. It begins the walk along a chain at the bucket's head.
pub is_known-last : (column : Column) (cs : List Column) → is_known cs column ≡ is_known (take (last_in (bucket_in column) cs) cs) column
is_known-last column [] = refl
is_known-last column (c ∷ cs) =
    let b = bucket_in column in
    let rest : is_known cs column ≡ is_known (take (last_in b cs) cs) column = is_known-last column cs in
    elim (cases_eq (last_in b cs) 0) [
      | inl none ↦
          let test : (last_in b cs == 0) ≡ true = grind (arith, nat_tests) in
          let empty : is_known cs column ≡ false = rest ∙ ap (λ n. is_known (take n cs) column) none in
          elim (cases_eq (bucket_in c) b) [
            | inl same ↦
                let hit : (bucket_in c == b) ≡ true = grind (arith, nat_tests) in
                let one : last_in b (c ∷ cs) ≡ 1 = rw (test, hit) refl in
                ap (λ t. is_same column c || t) empty ∙ sym (ap (λ n. is_known (take n (c ∷ cs)) column) one)
            | inr apart ↦
                let miss : (bucket_in c == b) ≡ false = grind (arith, nat_tests) in
                let zero_of : last_in b (c ∷ cs) ≡ 0 = rw (test, miss) refl in
                ap (λ t. t || is_known cs column) (not_same column c apart) ∙ empty
                ∙ sym (ap (λ n. is_known (take n (c ∷ cs)) column) zero_of)
          ]
      | inr some ↦
          let test : (last_in b cs == 0) ≡ false = grind (arith, nat_tests) in
          let more : last_in b (c ∷ cs) ≡ suc (last_in b cs) = rw test refl in
          ap (λ t. is_same column c || t) rest ∙ sym (ap (λ n. is_known (take n (c ∷ cs)) column) more)
    ]

pub last_in-push : (b : ℕ) (cs : List Column) (c : Column) →
    last_in b (cs ++ c ∷ []) ≡ cond (bucket_in c == b) (suc (length cs)) (last_in b cs)
last_in-push b [] c = refl
last_in-push b (d ∷ ds) c =
    let rest : last_in b (ds ++ c ∷ []) ≡ cond (bucket_in c == b) (suc (length ds)) (last_in b ds) = last_in-push b ds c in
    elim (bucket_in c == b) as (λ t. last_in b (ds ++ c ∷ []) ≡ cond t (suc (length ds)) (last_in b ds) →
    last_in b ((d ∷ ds) ++ c ∷ []) ≡ cond t (suc (suc (length ds))) (last_in b (d ∷ ds))) [
      | true ↦ λ is. let test : (last_in b (ds ++ c ∷ []) == 0) ≡ false = grind (arith, nat_tests) in rw test (ap suc is)
      | false ↦ λ is. ap (λ n. cond (n == 0) (cond (bucket_in d == b) 1 0) (suc n)) is
    ] rest

pub is_known-push : (cs : List Column) (c column : Column) → is_known (cs ++ c ∷ []) column ≡ (is_known cs column || is_same column c)
is_known-push [] c column = elim (is_same column c) as (λ t. (t || false) ≡ t) [ true ↦ refl | false ↦ refl ]
is_known-push (d ∷ ds) c column =
    elim (is_same column d) as (λ t. (t || is_known (ds ++ c ∷ []) column) ≡ ((t || is_known ds column) || is_same column c)) [
      | true ↦ refl
      | false ↦ is_known-push ds c column
    ]

pub column_at-any : (cs : List Column) (k : ℕ) (d : Column) → k < length cs → get_or cs k d ≡ column_at cs k
column_at-any [] k d h = absurd (omega arith)
column_at-any (c ∷ cs) zero d h = refl
column_at-any (c ∷ cs) (suc k) d h = column_at-any cs k d (omega arith)

pub take-take : (m n : ℕ) (cs : List Column) → m ≤ n → take m (take n cs) ≡ take m cs
take-take zero n cs h = refl
take-take (suc m) zero cs h = absurd (omega arith)
take-take (suc m) (suc n) [] h = refl
take-take (suc m) (suc n) (c ∷ cs) h = ap (λ l. c ∷ l) (take-take m n cs (omega arith))

pub column_at-push : (cs : List Column) (c : Column) (k : ℕ) → k < length cs → column_at (cs ++ c ∷ []) k ≡ column_at cs k
column_at-push [] c k h = absurd (omega arith)
column_at-push (d ∷ ds) c zero h = refl
column_at-push (d ∷ ds) c (suc k) h = column_at-push ds c k (omega arith)

pub column_at-pushed : (cs : List Column) (c : Column) → column_at (cs ++ c ∷ []) (length cs) ≡ c
column_at-pushed [] c = refl
column_at-pushed (d ∷ ds) c = column_at-pushed ds c

pub take-push : (cs : List Column) (c : Column) (k : ℕ) → k ≤ length cs → take k (cs ++ c ∷ []) ≡ take k cs
take-push cs c zero h = refl
take-push [] c (suc k) h = absurd (omega arith)
take-push (d ∷ ds) c (suc k) h = ap (λ l. d ∷ l) (take-push ds c k (omega arith))

pub number_at-push : (ns : List ℕ) (n k : ℕ) → k < length ns → get_or (ns ++ n ∷ []) k 0 ≡ get_or ns k 0
number_at-push [] n k h = absurd (omega arith)
number_at-push (m ∷ ms) n zero h = refl
number_at-push (m ∷ ms) n (suc k) h = number_at-push ms n k (omega arith)

pub number_at-pushed : (ns : List ℕ) (n k : ℕ) → k ≡ length ns → get_or (ns ++ n ∷ []) k 0 ≡ n
number_at-pushed [] n zero h = refl
number_at-pushed [] n (suc k) h = absurd (omega arith)
number_at-pushed (m ∷ ms) n zero h = absurd (omega arith)
number_at-pushed (m ∷ ms) n (suc k) h = number_at-pushed ms n k (omega arith)

take-all : (cs : List Column) → take (length cs) cs ≡ cs
take-all [] = refl
take-all (c ∷ cs) = ap (λ l. c ∷ l) (take-all cs)

-- The table after one more column: the bucket's head is the new column, and beside it stands the head from before, as the one
-- before it in its bucket. Earlier entries speak of the columns in front of them alone, so they stay true as they are: nothing is
-- moved. That the new column was not known is what keeps all columns distinct.
pub indexed-push : (cs : List Column) (heads earlier : List ℕ) (c : Column) (head : ℕ) → IsIndexed cs heads earlier →
    length cs < 200000 → length heads ≡ 262144 →
    is_known cs c ≡ false → bucket_in c < 262144 → head ≡ last_in (bucket_in c) cs →
    IsIndexed (cs ++ c ∷ []) (set heads (bucket_in c) (suc (length cs))) (earlier ++ head ∷ [])
indexed-push cs heads earlier c head index room width new_one inside is =
    let b = bucket_in c in
    let there : b < length heads = omega arith in
    let long = length-append cs (c ∷ []) in
    record {
      few = omega arith;
      distinct = λ k below.
          elim (cases_lt k (length cs)) [
            | inl inner ↦
                ap (λ l. is_known l (column_at (cs ++ c ∷ []) k)) (take-push cs c k (omega arith)) ∙
                ap (λ d. is_known (take k cs) d) (column_at-push cs c k inner) ∙ index.distinct k inner
            | inr outer ↦
                let last : k ≡ length cs = omega arith in
                let column : column_at (cs ++ c ∷ []) k ≡ c = ap (column_at (cs ++ c ∷ [])) last ∙ column_at-pushed cs c in
                let front : take k (cs ++ c ∷ []) ≡ cs = take-push cs c k (omega arith) ∙ ap (λ n. take n cs) last ∙ take-all cs in
                ap (λ l. is_known l (column_at (cs ++ c ∷ []) k)) front ∙ ap (λ d. is_known cs d) column ∙ new_one
          ];
      width = λ some. length-set heads b (suc (length cs)) ∙ width;
      lasts = λ j.
          let more = last_in-push j cs c in
          elim (cases_eq j b) [
            | inl same ↦
                let test : (b == j) ≡ true = grind (arith, nat_tests) in
                let new : last_in j (cs ++ c ∷ []) ≡ suc (length cs) = rw test at more in
                ap (λ n. get_or (set heads b (suc (length cs))) n 0) same ∙ get_or-set_same heads b (suc (length cs)) 0 there ∙ sym new
            | inr apart ↦
                let test : (b == j) ≡ false = grind (arith, nat_tests) in
                let new : last_in j (cs ++ c ∷ []) ≡ last_in j cs = rw test at more in
                get_or-set_other heads b j (suc (length cs)) 0 apart ∙ index.lasts j ∙ sym new
          ];
      len = (let more = length-append earlier (head ∷ []) in let same = index.len in omega arith);
      chained = λ k below.
          elim (cases_lt k (length cs)) [
            | inl inner ↦
                let short : k < length earlier = (let same = index.len in omega arith) in
                number_at-push earlier head k short ∙ index.chained k inner ∙
                ap (λ d. last_in (bucket_in d) (take k cs)) (sym (column_at-push cs c k inner)) ∙
                ap (λ l. last_in (bucket_in (column_at (cs ++ c ∷ []) k)) l) (sym (take-push cs c k (omega arith)))
            | inr outer ↦
                let last : k ≡ length cs = omega arith in
                let end : k ≡ length earlier = (let same = index.len in omega arith) in
                let column : column_at (cs ++ c ∷ []) k ≡ c = ap (column_at (cs ++ c ∷ [])) last ∙ column_at-pushed cs c in
                let front : take k (cs ++ c ∷ []) ≡ cs = take-push cs c k (omega arith) ∙ ap (λ n. take n cs) last ∙ take-all cs in
                number_at-pushed earlier head k end ∙ is ∙ ap (λ l. last_in b l) (sym front)
                ∙ ap (λ d. last_in (bucket_in d) (take k (cs ++ c ∷ []))) (sym column)
          ];
    }

-- the same numbers in another table
pub indexed-heads : (cs : List Column) (heads new earlier : List ℕ) → IsIndexed cs heads earlier → (0 < length new → length new ≡ 262144) →
    ((j : ℕ) → get_or new j 0 ≡ get_or heads j 0) → IsIndexed cs new earlier
indexed-heads cs heads new earlier index width same = record {
  few = index.few;
  distinct = index.distinct;
  width = width;
  lasts = λ j. same j ∙ index.lasts j;
  len = index.len;
  chained = index.chained;
}

pub empty-zero : (ns : List ℕ) (i : ℕ) → length ns ≡ 0 → get_or ns i 0 ≡ 0
empty-zero [] i h = refl
empty-zero (n ∷ ns) i h = absurd (omega arith)

-- One step down a chain: the column at the place is another, and none stands between it and the one before it in its bucket. With
-- the invariant that the column is known in the whole pool exactly if it is among the columns up to the place reached, the walk
-- goes down the chain; it ends where a column is the same, or the chain does, and then nothing is left. So a look at one bucket
-- answers for all.
pub is_known-step : (column : Column) (cs : List Column) (at next : ℕ) → at < length cs → bucket_in (column_at cs at) ≡ bucket_in column →
    is_same column (column_at cs at) ≡ false → next ≡ last_in (bucket_in (column_at cs at)) (take at cs) →
    is_known (take (suc at) cs) column ≡ is_known (take next cs) column
is_known-step column cs at next inside here other is =
    let next_is : next ≡ last_in (bucket_in column) (take at cs) = is ∙ ap (λ b. last_in b (take at cs)) here in
    let short : last_in (bucket_in column) (take at cs) ≤ at =
    (let low = last_in-le (bucket_in column) (take at cs) in let long = length-take-le at cs (omega arith) in omega arith) in
    let front : take (suc at) cs ≡ take at cs ++ column_at cs at ∷ [] =
    (let e : suc at ≡ at + 1 = omega arith in ap (λ n. take n cs) e ∙ take_more cs at no_column inside) in
    let split = is_known-push (take at cs) (column_at cs at) column in
    ap (λ l. is_known l column) front ∙ split ∙ ap (λ t. is_known (take at cs) column || t) other
    ∙ or_false (is_known (take at cs) column) ∙
    is_known-last column (take at cs) ∙ ap (λ l. is_known l column) (take-take (last_in (bucket_in column) (take at cs)) at cs short)
    ∙ ap (λ n. is_known (take n cs) column) (sym next_is)
  where
    or_false : (t : Bool) → (t || false) ≡ t
    or_false true = refl
    or_false false = refl

-- the column at the place is the same one
pub is_known-found : (column : Column) (cs : List Column) (at : ℕ) → at < length cs → is_same column (column_at cs at) ≡ true →
    is_known (take (suc at) cs) column ≡ true
is_known-found column cs at inside same =
    let front : take (suc at) cs ≡ take at cs ++ column_at cs at ∷ [] =
    (let e : suc at ≡ at + 1 = omega arith in ap (λ n. take n cs) e ∙ take_more cs at no_column inside) in
    ap (λ l. is_known l column) front ∙ is_known-push (take at cs) (column_at cs at) column
    ∙ ap (λ t. is_known (take at cs) column || t) same ∙ or_true (is_known (take at cs) column)
  where
    or_true : (t : Bool) → (t || true) ≡ true
    or_true true = refl
    or_true false = refl

pub column_at-take : (cs : List Column) (n k : ℕ) → k < n → column_at (take n cs) k ≡ column_at cs k
column_at-take cs zero k h = absurd (omega arith)
column_at-take [] (suc n) k h = refl
column_at-take (c ∷ cs) (suc n) zero h = refl
column_at-take (c ∷ cs) (suc n) (suc k) h = column_at-take cs n k (omega arith)

pub bucket_of-below : (class : ℕ) (list : List ℕ) → bucket_of class list < 262144
bucket_of-below class list = omega arith
