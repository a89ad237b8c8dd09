-- Places that hold no number, and operands of one token.
use Rattle.std.proofs.Common.{◌≡◌, ◌≢◌, ℕ, ◌==◌, Bool, true, false, cond, List, [], ◌∷◌, length, Option, Some, None, refl, sym, ap, ◌∙◌, arith}
use Rattle.std.specs.Prelude.{slice_get}
use Rattle.std.specs.Option.{option_map_or}
use Rattle.tc_lex.specs.declared.kinds.TokenKind.{TokenKind}
use Rattle.tc_lex.specs.declared.kinds.TokenKind.TheVariants.{Word, Number, Minus}
use Rattle.tc_lex.specs.Numbers.{token_number}
use Rattle.tc_lex.specs.Pieces.{PieceData, is_token_kind, token_text, kind_index}
use Rattle.tc_lex.specs.declared.operand.Shape.TheVariants as shape
use Rattle.std.proofs.lemmas.Bool.Decides.{Decides-eqb}
use Rattle.tc_lex.specs.Operands.{ValueData, value_with_shape, number_operand_value, operand_number_at, name_or_sum_at, symbol_value_at, operand_value_at, plain_operand, operand_of_tokens}

other : (k : TokenKind) (i : ℕ) → (kind_index k == 0) ≡ true → i ≡ 1 → (kind_index k == i) ≡ false
unfolding kind_index
other Word i e h = rw h refl
other _ i e h = cc

seven : (k : TokenKind) (i : ℕ) → (kind_index k == 0) ≡ true → i ≡ 7 → (kind_index k == i) ≡ false
unfolding kind_index
seven Word i e h = rw h refl
seven _ i e h = cc

of_kind : (o : Option PieceData) (i : ℕ) (other_kind : (p : PieceData) → (kind_index p.kind == 0) ≡ true → (kind_index p.kind == i) ≡ false)
    → option_map_or (λ p. kind_index p.kind == 0) o false ≡ true → option_map_or (λ p. kind_index p.kind == i) o false ≡ false
of_kind None i other_kind e = refl
of_kind (Some p) i other_kind e = other_kind p e

no_number_kind : (ps : List PieceData) (at : ℕ) → is_token_kind ps at Word ≡ true → is_token_kind ps at Number ≡ false
unfolding is_token_kind kind_index
no_number_kind ps at e = of_kind (slice_get ps at) 1 (λ p h. other p.kind 1 h refl) e

no_minus_kind : (ps : List PieceData) (at : ℕ) → is_token_kind ps at Word ≡ true → is_token_kind ps at Minus ≡ false
unfolding is_token_kind kind_index
no_minus_kind ps at e = of_kind (slice_get ps at) 7 (λ p h. seven p.kind 7 h refl) e

-- a Word begins no number
pub word_no_number : (ps : List PieceData) (at : ℕ) → is_token_kind ps at Word ≡ true → operand_number_at ps at ≡ None
unfolding operand_number_at
word_no_number ps at e = rw (no_number_kind ps at e) (rw (no_minus_kind ps at e) refl)

differ : (m n : ℕ) (b : Bool) → (m == n) ≡ b → m ≢ n → b ≡ false
differ m n true e h = absurd (h ((Decides-eqb m n).0 e))
differ m n false e h = refl

-- a value that begins with a Word is a name
pub word_value : (ps : List PieceData) (at : ℕ) → is_token_kind ps at Word ≡ true → length ps ≢ at → symbol_value_at ps at ≡ operand_value_at ps at
unfolding operand_value_at
word_value ps at e h =
    let told : Option (Bool × Option ℕ) → ValueData = λ o. option_map_or (λ n. number_operand_value n.0 n.1) o (symbol_value_at ps at) in
    sym (ap (λ b. cond b (value_with_shape shape.Absent [] false 0) (told (operand_number_at ps at))) (differ (length ps) at (length ps == at) refl h) ∙ ap told (word_no_number ps at e))

-- ---- an operand of one token
abbrev token_with : TokenKind → List ℕ → PieceData
token_with k text = record { kind = k; text = text }

lone_word_of : (k : TokenKind) (text : List ℕ) → is_token_kind (token_with k text ∷ []) 0 Word ≡ true → plain_operand (value_with_shape shape.Word text false 0) ≡ operand_of_tokens (token_with k text ∷ [])
unfolding operand_of_tokens operand_value_at operand_number_at symbol_value_at name_or_sum_at is_token_kind kind_index token_text
lone_word_of Word text e = refl
lone_word_of _ text e = cc

lone_number_of : (k : TokenKind) (text : List ℕ) → is_token_kind (token_with k text ∷ []) 0 Number ≡ true → plain_operand (number_operand_value false (token_number text)) ≡ operand_of_tokens (token_with k text ∷ [])
unfolding operand_of_tokens operand_value_at operand_number_at is_token_kind kind_index token_text
lone_number_of Number text e = refl
lone_number_of _ text e = cc

pub lone_word : (ps : List PieceData) → length ps ≡ 1 → is_token_kind ps 0 Word ≡ true → plain_operand (value_with_shape shape.Word (token_text ps 0) false 0) ≡ operand_of_tokens ps
unfolding token_text
lone_word [] n e = absurd (omega arith)
lone_word (p ∷ []) n e = lone_word_of p.kind p.text e
lone_word (p ∷ q ∷ qs) n e = absurd (omega arith)

pub lone_number : (ps : List PieceData) → length ps ≡ 1 → is_token_kind ps 0 Number ≡ true → plain_operand (number_operand_value false (token_number (token_text ps 0))) ≡ operand_of_tokens ps
unfolding token_text
lone_number [] n e = absurd (omega arith)
lone_number (p ∷ []) n e = lone_number_of p.kind p.text e
lone_number (p ∷ q ∷ qs) n e = absurd (omega arith)
