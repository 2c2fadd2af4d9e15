-- Forms of files other than CSV with commas (this project's rule).
use Rattle.std.specs.Prelude.{List, ◌∷◌, ℕ, ◌==◌, ◌&&◌, ◌||◌, Bool, Option, Some, None, codes, find, if◌then◌else◌}
use Rattle.ee_cli_program.specs.declared.forms.Form.{Form}
use Rattle.ee_cli_program.specs.declared.forms.Form.TheVariants as form

abbrev pub form_text : Form → List ℕ
form_text form.Zip = codes "it is a zip, or a workbook as .xlsx and .ods"
form_text form.Utf16 = codes "it is UTF-16"
form_text form.Semicolons = codes "its fields are separated by semicolons"
form_text form.Tabs = codes "its fields are separated by tabs"

-- a comma, a semicolon, a tab, or the end of a row
abbrev pub is_sign : ℕ → Bool
is_sign byte = byte == 44 || (byte == 59 || (byte == 9 || (byte == 10 || byte == 13)))

-- a semicolon or a tab before any comma, and in the first row
abbrev pub separated : Option ℕ → Option Form
separated None = None
separated (Some sign) = if sign == 59 then Some form.Semicolons else (if sign == 9 then Some form.Tabs else None)

-- the two bytes are a byte order mark of UTF-16, or an ASCII character in it
abbrev pub is_utf_16 : ℕ → ℕ → Bool
is_utf_16 first second = (first == 255 && second == 254) || ((first == 254 && second == 255) || (first == 0 || second == 0))

abbrev pub form_by : ℕ → ℕ → List ℕ → Option Form
form_by first second bytes = if first == 80 && second == 75 then Some form.Zip
    else (if is_utf_16 first second then Some form.Utf16 else separated (find is_sign bytes))

-- by the first two bytes, and else by the first row
abbrev pub form_of : List ℕ → Option Form
form_of (first ∷ second ∷ rest) = form_by first second (first ∷ second ∷ rest)
form_of bytes = None
