pub mod FurtherScripts
