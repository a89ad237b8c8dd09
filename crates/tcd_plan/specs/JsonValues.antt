-- The values of a plan's document: objects, arrays, texts, and numbers of 32 bits.
use Rattle.std.specs.Prelude.{ℕ, ◌^◌, ◌&&◌, ◌==◌, List, ◌∷◌, length, Bool, false, nat_lt, nat_le, if◌then◌else◌, Option, Some, None, option_map, option_and_then, is_some, unwrap_or, []}
use Rattle.std.specs.Char.{digit_value}
use Rattle.std.specs.List.{list_all}
use Rattle.std.specs.Option.{option_map_or}
use Rattle.std.specs.Str.{bytes_eq}
use Rattle.std.specs.Str.Parse.{digits_value}
use Rattle.serde_json.specs.Data.{Data, null, boolean, number, string, array, object, Items, no_items, item, Members, no_members, member}
use Rattle.serde_json.specs.Find.{get, as_array, as_object, as_str, as_u64}

-- the elements of a JSON array, as a list
abbrev pub json_array_elements : Items → List Data
json_array_elements no_items = []
json_array_elements (item d ds) = d ∷ json_array_elements ds

-- the keys of the members of an object in a document, in order
abbrev pub json_member_keys : Members → List (List ℕ)
json_member_keys no_members = []
json_member_keys (member name d ms) = name ∷ json_member_keys ms

-- the value is an object
abbrev pub is_object : Data → Bool
is_object d = is_some (as_object d)

-- the keys of an object
abbrev pub json_object_keys : Data → List (List ℕ)
json_object_keys d = option_map_or json_member_keys (as_object d) []

-- the elements of the array at a key
abbrev pub json_elements_at : List ℕ → Data → Option (List Data)
json_elements_at name d = option_map json_array_elements (option_and_then as_array (get name d))

-- the value is this JSON string
abbrev pub is_json_string : List ℕ → Data → Bool
is_json_string text d = option_map_or (λ s. bytes_eq s text) (as_str d) false

-- the number, if it is a word: below 2 ^ 32
abbrev pub json_number_if_word : ℕ → Option ℕ
json_number_if_word n = if nat_lt n (2 ^ 32) then Some n else None

-- a hex digit of either case, in a JSON string that is read as a number
abbrev pub is_json_hex : ℕ → Bool
is_json_hex c = nat_lt (digit_value c) 16

-- the number in a JSON string after its `0x`: 1 to 8 hex digits of either case
abbrev pub json_hex_number : List ℕ → Option ℕ
json_hex_number digits = if nat_le 1 (length digits) && nat_le (length digits) 8 && list_all is_json_hex digits then Some (digits_value 16 digits) else None

-- the number that a JSON string spells: `0x` and 1 to 8 hex digits of either case; None for another
-- string
abbrev pub hex_string_value : List ℕ → Option ℕ
hex_string_value (a ∷ b ∷ digits) = if a == 48 && b == 120 then json_hex_number digits else None
hex_string_value cs = None

-- a number of 32 bits: a JSON number that is an unsigned integer, or a string of hex digits
abbrev pub json_number_of : Data → Option ℕ
json_number_of null = None
json_number_of (boolean b) = None
json_number_of (number n) = option_and_then json_number_if_word (as_u64 n)
json_number_of (string s) = hex_string_value s
json_number_of (array ds) = None
json_number_of (object ms) = None

-- the number at a key of a JSON object, if there is one
abbrev pub json_number_at : List ℕ → Data → Option ℕ
json_number_at name d = option_and_then json_number_of (get name d)

-- the number at a key of a JSON object, 0 if there is none
abbrev pub json_number_or_zero : List ℕ → Data → ℕ
json_number_or_zero name d = unwrap_or (json_number_at name d) 0

-- the number at a key of the object at another key, 0 if there is none
abbrev pub json_nested_number : List ℕ → List ℕ → Data → ℕ
json_nested_number outer name d = unwrap_or (option_and_then (json_number_at name) (get outer d)) 0

-- the elements of the array with this key in the document
abbrev pub json_elements_or_empty : List ℕ → Data → List Data
json_elements_or_empty name d = unwrap_or (json_elements_at name d) []
