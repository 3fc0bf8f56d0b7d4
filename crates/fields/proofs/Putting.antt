-- Bytes put into an output one after the other.
use Rattle.std.proofs.Common.{◌≡◌, ℕ, ◌+◌, ◌/◌, ◌%◌, ◌<◌, ◌≤◌, List, [], ◌∷◌, ◌++◌, length, get_or, take, drop, sym, ap, ◌∙◌, subst, append_assoc, w16, arith}
use Rattle.std.specs.List.{flat_map}
use Rattle.std.specs.Int.{to_le_bytes}
use Rattle.book.specs.Files.{bytes_of}
use Rattle.std.proofs.lemmas.List.{length-append, length-take-le, take_at, drop_at, drop-drop, take_more, take_all, flat_map_more}
use Rattle.fields.specs.declared.output.Output.{Output}
use Rattle.fields.specs.Putting.{Put, Puts}

module _ (o p q : List ℕ) (a b c : ℕ) (t u : List ℕ) where
  written_then : (c ≤ length o) → b ≡ a + length t → c ≡ b + length u
      → p ≡ take a o ++ (t ++ drop b o) → q ≡ take b p ++ (u ++ drop c p) → q ≡ take a o ++ ((t ++ u) ++ drop c o)
  written_then room eb ec ep eq =
      let p-is : p ≡ (take a o ++ t) ++ drop b o = ep ∙ sym (append_assoc (take a o) t (drop b o)) in
      let long : length (take a o ++ t) ≡ b = length-append (take a o) t ∙ omega (arith, length-take-le a o (omega arith)) in
      let before : take b p ≡ take a o ++ t = ap (take b) p-is ∙ take_at (take a o ++ t) (drop b o) b long in
      let past : drop b p ≡ drop b o = ap (drop b) p-is ∙ drop_at (take a o ++ t) (drop b o) b long in
      let after : drop c p ≡ drop c o =
      ap (λ n. drop n p) ec ∙ sym (drop-drop (length u) b p) ∙ ap (drop (length u)) past
      ∙ drop-drop (length u) b o ∙ ap (λ n. drop n o) (sym ec) in
      eq ∙ ap (λ l. l ++ (u ++ drop c p)) before ∙ ap (λ l. (take a o ++ t) ++ (u ++ l)) after
      ∙ append_assoc (take a o) t (u ++ drop c o) ∙ ap (λ l. take a o ++ l) (sym (append_assoc t u (drop c o)))

  -- bytes, and then more bytes
  pub put_then : length p ≡ length o → Put o a t p b → Put p b u q c → Put o a (t ++ u) q c
  put_then same x y =
      let eb = x.ends in let ec = y.ends in
      record {
        ends = omega (arith, length-append t u);
        is = λ h. written_then h eb ec (x.is (omega arith)) (y.is (omega arith));
      }

-- the library's two bytes of a number are these
pub le_bytes : (n : ℕ) → n < 65536 → to_le_bytes w16 n ≡ bytes_of n
le_bytes n h = let u : n / 256 % 256 ≡ n / 256 = omega arith in λ i. n % 256 ∷ (u i ∷ [])

-- outputs: one text after another
module _ (before : Output) where
  pub puts_then : (middle after : Output) (t u : List ℕ) → Puts before t middle → Puts middle u after → Puts before (t ++ u) after
  puts_then middle after t u x y =
      record {
        lent = y.lent ∙ x.lent;
        room = y.room ∙ x.room;
        put = put_then before.bytes.now middle.bytes.now after.bytes.now before.at middle.at after.at t u x.room x.put y.put;
      }

  -- the bytes of each element, one element after the other
  module _ {X : Type 0} (f : X → List ℕ) (xs : List X) (i : ℕ) where
    pub puts_more : (middle after : Output) (d : X) → i < length xs → Puts before (flat_map f (take i xs)) middle → Puts middle (f (get_or xs i d)) after
        → Puts before (flat_map f (take (i + 1) xs)) after
    puts_more middle after d h x y =
        subst (λ t. Puts before t after) (flat_map_more f [] (take i xs) (get_or xs i d) ∙ ap (flat_map f) (sym (take_more xs i d h)))
        (puts_then middle after (flat_map f (take i xs)) (f (get_or xs i d)) x y)

    pub puts_all : (after : Output) → length xs ≤ i → Puts before (flat_map f (take i xs)) after → Puts before (flat_map f xs) after
    puts_all after h x = subst (λ l. Puts before (flat_map f l) after) (take_all i xs h) x
