-- Bytes as lines, lines as words, and the meaning of single words.
use Rattle.std.specs.Prelude.{ℕ, ◌+◌, ◌-◌, ◌*◌, ◌^◌, ◌==◌, nat_lt, nat_le, ◌&&◌, ◌||◌, not, Bool, true, false, if◌then◌else◌, List, [], ◌∷◌, ◌++◌, length, map, filter, fold, take, Option, Some, None}
use Rattle.std.specs.List.{list_all, slice_split}
use Rattle.std.specs.Option.{option_map}

-- a list is empty
abbrev pub is_empty : {X : Type 0} → List X → Bool
is_empty [] = true
is_empty (item ∷ items) = false

-- the list is not empty, and its first item passes the test
abbrev pub begins_with : {X : Type 0} → (X → Bool) → List X → Bool
begins_with test [] = false
begins_with test (item ∷ items) = test item

-- the list is not empty, and its last item passes the test
abbrev pub ends_with : {X : Type 0} → (X → Bool) → List X → Bool
ends_with test [] = false
ends_with test (item ∷ []) = test item
ends_with test (item ∷ next ∷ items) = ends_with test (next ∷ items)

-- the lines from the pieces between line feeds: an empty piece after the last line feed is no line
abbrev pub without_empty_end : List (List ℕ) → List (List ℕ)
without_empty_end [] = []
without_empty_end ([] ∷ []) = []
without_empty_end ((byte ∷ line) ∷ []) = (byte ∷ line) ∷ []
without_empty_end (line ∷ next ∷ pieces) = line ∷ without_empty_end (next ∷ pieces)

-- a line without the carriage return at its end
abbrev pub without_return : List ℕ → List ℕ
without_return line = if ends_with (λ byte. byte == 13) line then take (length line - 1) line else line

-- the lines of a text
unfoldable pub lines_of : List ℕ → List (List ℕ)
lines_of bytes = map without_return (without_empty_end (slice_split (λ byte. byte == 10) bytes))

-- a byte that is allowed in a line: a tab or a printable character
abbrev pub is_line_byte : ℕ → Bool
is_line_byte byte = (byte == 9) || nat_le 32 byte && nat_le byte 126

-- a space or a tab
abbrev pub is_blank : ℕ → Bool
is_blank byte = (byte == 32) || (byte == 9)

-- a line without a meaning: it has no words, or its first word begins with `#`
unfoldable pub is_skipped : List ℕ → Bool
is_skipped line = list_all is_blank line || begins_with (λ byte. byte == 35) (filter (λ byte. not (is_blank byte)) line)

-- a word: bytes without blanks, or a text in quotes
pub data Word : Type 0 where
  Plain : (bytes : List ℕ) → Word
  Quoted : (text : List ℕ) → Word

-- the words of a piece of a line without quotes; blanks separate them
abbrev pub plain_words : List ℕ → List Word
plain_words piece = map (λ bytes. Plain bytes) (filter (λ bytes. not (is_empty bytes)) (slice_split is_blank piece))

-- a byte that is allowed in a text: a printable character
abbrev pub is_text_byte : ℕ → Bool
is_text_byte byte = nat_le 32 byte && nat_le byte 126

-- a text may follow this piece of a line: the piece is empty or ends with a blank
abbrev pub lets_a_text_follow : List ℕ → Bool
lets_a_text_follow piece = is_empty piece || ends_with is_blank piece

-- a text may come before this piece of a line: the piece begins with a blank, or it is empty and
-- the line ends after it
abbrev pub lets_a_text_precede : List ℕ → (later : List (List ℕ)) → Bool
lets_a_text_precede piece later = begins_with is_blank piece || is_empty piece && is_empty later

-- the words of a line, from the pieces between its quotes: the first is outside a text, the second
-- inside, and so on alternately
unfoldable pub words_between_quotes : List (List ℕ) → Option (List Word)
words_between_quotes [] = None
words_between_quotes (outside ∷ []) = Some (plain_words outside)
words_between_quotes (outside ∷ text ∷ []) = None
words_between_quotes (outside ∷ text ∷ next ∷ later) =
    if list_all is_text_byte text && lets_a_text_follow outside && lets_a_text_precede next later
    then option_map (λ words. plain_words outside ++ (Quoted text ∷ words)) (words_between_quotes (next ∷ later)) else None

-- the words of a line, if its texts are well-formed
unfoldable pub words_of : List ℕ → Option (List Word)
words_of line = words_between_quotes (slice_split (λ byte. byte == 34) line)

-- a digit, 0 to 9
abbrev pub is_digit : ℕ → Bool
is_digit byte = nat_le 48 byte && nat_le byte 57

-- a lower-case letter, a to z
abbrev pub is_letter : ℕ → Bool
is_letter byte = nat_le 97 byte && nat_le byte 122

-- a byte that is allowed in a name: a letter, a digit or an underscore
abbrev pub is_name_byte : ℕ → Bool
is_name_byte byte = is_letter byte || is_digit byte || (byte == 95)

-- the number that decimal digits spell
abbrev pub decimal_value : List ℕ → ℕ
decimal_value digits = fold (λ value digit. value * 10 + (digit - 48)) 0 digits

-- 1 to 20 digits that spell a number below 2^64
abbrev pub is_number : List ℕ → Bool
is_number bytes = nat_le 1 (length bytes) && nat_le (length bytes) 20 && list_all is_digit bytes && nat_lt (decimal_value bytes) (2 ^ 64)

-- a name: a letter and then letters, digits and underscores, 32 bytes at most
unfoldable pub is_name : List ℕ → Bool
is_name bytes = nat_le (length bytes) 32 && begins_with is_letter bytes && list_all is_name_byte bytes

-- the number that a word spells, if it spells one
unfoldable pub number_of : Word → Option ℕ
number_of (Plain bytes) = if is_number bytes then Some (decimal_value bytes) else None
number_of (Quoted text) = None

-- the name that a word spells, if it spells one
unfoldable pub name_of : Word → Option (List ℕ)
name_of (Plain bytes) = if is_name bytes then Some bytes else None
name_of (Quoted text) = None

-- applies `next` to the value, if there is one
infixl 10 ◌>>=◌
abbrev pub ◌>>=◌ : {X Y : Type 0} → Option X → (X → Option Y) → Option Y
None >>= next = None
(Some value) >>= next = next value

-- all the values, if each of them is present
abbrev pub all_of : {X : Type 0} → List (Option X) → Option (List X)
all_of [] = Some []
all_of (None ∷ values) = None
all_of (Some value ∷ values) = option_map (λ others. value ∷ others) (all_of values)
